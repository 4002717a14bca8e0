-- Graphs of nodes that are numbered from 0: which nodes lead to a cycle, and an order of the others.
use Rattle.std.specs.Prelude.{◌≡◌, ℕ, zero, suc, ◌<◌, Bool, true, false, ◌&&◌, ◌||◌, ◌⊎◌, List, [], length, get_or, take, map, nat_eq, nat_lt, All, Vec}
use Rattle.std.specs.List.{list_any, list_all, IsDistinct, range_with_len}

-- for each node, the nodes that it leads to in one step
abbrev pub Graph : Type 0
Graph = List (List ℕ)

-- the graph that vectors hold
abbrev pub graph_of : {A : Type 0} → List (Vec ℕ A) → Graph
graph_of {A} lists = map (λ (list : Vec ℕ A). list.items) lists

-- the nodes that a node leads to in one step; from past the end, none
abbrev pub successors : Graph → ℕ → List ℕ
successors g a = get_or g a []

-- each node leads to nodes of the graph
abbrev pub InRange : Graph → Type 0
InRange g = All (λ (nodes : List ℕ). All (λ b. b < length g) nodes) g

-- the node is among these
abbrev pub is_in : List ℕ → ℕ → Bool
is_in nodes a = list_any (nat_eq a) nodes

-- `a` leads to `b` in at least one step, and at most so many
abbrev pub leads : ℕ → Graph → ℕ → ℕ → Bool
leads zero g a b = false
leads (suc n) g a b = list_any (λ next. nat_eq next b || leads n g next b) (successors g a)

-- the node leads to itself: it is on a cycle, which has at most as many steps as there are nodes
abbrev pub is_on_cycle : Graph → ℕ → Bool
is_on_cycle g a = leads (length g) g a a

-- no path from here has more nodes than so many
abbrev pub settles : ℕ → Graph → ℕ → Bool
settles zero g a = false
settles (suc n) g a = list_all (settles n g) (successors g a)

-- the node is on no cycle, and leads to none: each path from it ends
abbrev pub leads_to_no_cycle : Graph → ℕ → Bool
leads_to_no_cycle g a = settles (length g) g a

-- each node stands behind all that it leads to
abbrev pub StandBehind : Graph → List ℕ → Type 0
StandBehind g nodes =
    (k : ℕ) (d : ℕ) → k < length nodes → list_all (is_in (take k nodes)) (successors g (get_or nodes k d)) ≡ true

-- an order of the nodes that lead to no cycle
pub record IsOrder (g : Graph) (nodes : List ℕ) : Type 0 where
  -- exactly those nodes of the graph stand in it
  pub has : (a : ℕ) → is_in nodes a ≡ (nat_lt a (length g) && leads_to_no_cycle g a)
  -- none stands in it twice
  pub apart : IsDistinct nat_eq nodes
  -- each stands behind all that it leads to
  pub behind : StandBehind g nodes

-- of each node in turn, whether it is on a cycle
abbrev pub cycles_of : Graph → List Bool
cycles_of g = map (is_on_cycle g) (range_with_len 0 (length g))

-- `b` is `a` itself, or `a` leads to it
abbrev pub IsReached : Graph → ℕ → ℕ → Type 0
IsReached g a b = (b ≡ a) ⊎ (leads (length g) g a b ≡ true)

-- exactly the nodes that `a` leads to
abbrev pub AreReached : Graph → ℕ → List ℕ → Type 0
AreReached g a nodes = (b : ℕ) → is_in nodes b ≡ leads (length g) g a b
