-- What vectors and flags hold.
use Rattle.std.proofs.Common.{◌≡◌, ℕ, zero, suc, ◌+◌, ◌<◌, ◌≤◌, Bool, true, false, ◌||◌, ⊎_elim, List, [], ◌∷◌, ◌++◌, length, get_or, set, map, replicate, nat_eq, nat_lt, eqb-true, refl, sym, ap, subst, ◌∙◌, arith, Vec}
use Rattle.std.specs.List.{fold, All, IsDistinct, range_with_len}
use Rattle.std.proofs.lemmas.Bool.{cases_lt}
use Rattle.std.proofs.lemmas.List.{get_or_past, get_or-set_same, get_or-set_other, length-map}
use Rattle.std.proofs.lemmas.List.FromFn.{map-range_with_len_more}
use Rattle.std.proofs.lemmas.Cmp.{nat_eq_equiv}
use Rattle.std.proofs.lemmas.Map.Keys.{IsDistinct-push}
use Rattle.std.proofs.lemmas.Map.Steps.{length-le_from_distinct_below}
use Rattle.graph_cycles.specs.Graphs.{Graph, graph_of, successors, InRange, IsOrder, is_in, is_on_cycle, leads_to_no_cycle}
use Rattle.graph_cycles.specs.Growing.{with_ready}
use Rattle.graph_cycles.proofs.Members.{not_both, itself, and_right, is_in-at, is_in-append}
use Rattle.graph_cycles.proofs.Paths.{nothing_apart, settled-no_cycle}
use Rattle.graph_cycles.proofs.Finding.{or_none}

-- ---- flags

pub get_or-all_false : (n i : ℕ) → get_or (replicate n false) i false ≡ false
get_or-all_false zero i = refl
get_or-all_false (suc n) zero = refl
get_or-all_false (suc n) (suc i) = get_or-all_false n i

pub marked-none : (flags : List Bool) (nodes : List ℕ) (n : ℕ) → flags ≡ replicate n false → nodes ≡ [] → (a : ℕ) → get_or flags a false ≡ is_in nodes a
marked-none flags nodes n f e a =
    ap (λ (bs : List Bool). get_or bs a false) f ∙ get_or-all_false n a ∙ sym (ap (λ (ns : List ℕ). is_in ns a) e)

or_true : (a : Bool) → true ≡ (a || true)
or_true true = refl
or_true false = refl

or_false : (a : Bool) → a ≡ (a || false)
or_false true = refl
or_false false = refl

pub marked-push : (flags : List Bool) (nodes more : List ℕ) (node : ℕ) → ((a : ℕ) → get_or flags a false ≡ is_in nodes a)
    → node < length flags → more ≡ nodes ++ node ∷ [] → (a : ℕ) → get_or (set flags node true) a false ≡ is_in more a
marked-push flags nodes more node marked l e a =
    by (nat_eq a node) refl ∙ sym (or_none (is_in nodes a) (nat_eq a node)) ∙ sym (is_in-append nodes (node ∷ []) a) ∙ sym (ap (λ (ns : List ℕ). is_in ns a) e)
  where
    by : (b : Bool) → nat_eq a node ≡ b → get_or (set flags node true) a false ≡ (is_in nodes a || b)
    by true t = ap (λ (x : ℕ). get_or (set flags node true) x false) (eqb-true a node t) ∙ get_or-set_same flags node true false l ∙ or_true (is_in nodes a)
    by false f =
        get_or-set_other flags node a true false (λ same. not_both (subst (λ (x : ℕ). nat_eq a x ≡ true) same (itself a)) f)
        ∙ marked a ∙ or_false (is_in nodes a)

-- a node with a flag has a place among the flags
pub below_flags : (flags : List Bool) (nodes : List ℕ) (n : ℕ) → ((a : ℕ) → get_or flags a false ≡ is_in nodes a) → length flags ≡ n
    → (a : ℕ) → is_in nodes a ≡ true → a < n
below_flags flags nodes n marked e a is = ⊎_elim (λ (l : a < length flags). omega arith)
    (λ (m : length flags ≤ a). not_both is (sym (marked a) ∙ get_or_past flags a false m))
    (cases_lt a (length flags))

-- ---- vectors

get_or-graph : {A : Type 0} (graph : List (Vec ℕ A)) (node : ℕ) (v : Vec ℕ A) → node < length graph → get_or (graph_of graph) node [] ≡ (get_or graph node v).items
get_or-graph [] node v l = absurd (omega arith)
get_or-graph (list ∷ graph) zero v l = refl
get_or-graph (list ∷ graph) (suc node) v l = get_or-graph graph node v (omega arith)

pub length-graph : {A : Type 0} (graph : List (Vec ℕ A)) → length (graph_of graph) ≡ length graph
length-graph {A} graph = length-map graph (λ (list : Vec ℕ A). list.items)

pub successors_at : {A : Type 0} (graph : List (Vec ℕ A)) (node : ℕ) (v : Vec ℕ A) (list : List ℕ) → node < length graph → v ≡ get_or graph node v → list ≡ v.items
    → list ≡ successors (graph_of graph) node
successors_at {A} graph node v list l at is = is ∙ ap (λ (w : Vec ℕ A). w.items) at ∙ sym (get_or-graph graph node v l)

pub in_range_at : {A : Type 0} (graph : List (Vec ℕ A)) (node : ℕ) (v : Vec ℕ A) (list : List ℕ) (n : ℕ) → InRange (graph_of graph) → node < length graph → v ≡ get_or graph node v → list ≡ v.items
    → n ≡ length graph → All (λ b. b < n) list
in_range_at graph node v list n in_range l at is e =
    let same : n ≡ length (graph_of graph) = e ∙ sym (length-graph graph) in
    subst (λ (m : ℕ). All (λ b. b < m) list) (sym same)
    (subst (λ (xs : List ℕ). All (λ b. b < length (graph_of graph)) xs) (sym (successors_at graph node v list l at is))
    (in_range node [] (omega (arith, length-graph graph))))

-- ---- numbers in turn

pub fold_range_more : {X : Type 0} (f : X → ℕ → X) (x : X) (a n : ℕ) → fold f x (range_with_len a (n + 1)) ≡ f (fold f x (range_with_len a n)) (a + n)
fold_range_more {X = X} f x a n = subst (λ (m : ℕ). fold f x (range_with_len a m) ≡ f (fold f x (range_with_len a n)) (a + n)) (more n) (by x a n)
  where
    more : (n : ℕ) → suc n ≡ n + 1
    more n = omega arith

    by : (y : X) (b k : ℕ) → fold f y (range_with_len b (suc k)) ≡ f (fold f y (range_with_len b k)) (b + k)
    by y b zero = let e : b ≡ b + 0 = omega arith in ap (f y) e
    by y b (suc k) = let e : b + 1 + k ≡ b + suc k = omega arith in by (f y b) (b + 1) k ∙ ap (f (fold f y (range_with_len b (suc k)))) e

pub placed_more : (g : Graph) (first now more : List ℕ) (node : ℕ) → now ≡ fold (with_ready g) first (range_with_len 0 node)
    → more ≡ with_ready g now node → more ≡ fold (with_ready g) first (range_with_len 0 (node + 1))
placed_more g first now more node is e =
    let same : 0 + node ≡ node = omega arith in
    e ∙ ap (λ (ns : List ℕ). with_ready g ns node) is ∙ ap (with_ready g (fold (with_ready g) first (range_with_len 0 node))) (sym same)
    ∙ sym (fold_range_more (with_ready g) first 0 node)

-- ---- none twice

pub apart-none : (nodes : List ℕ) → nodes ≡ [] → IsDistinct nat_eq nodes
apart-none nodes e = subst (IsDistinct nat_eq) (sym e) nothing_apart

pub apart-push : (nodes more : List ℕ) (node : ℕ) → IsDistinct nat_eq nodes → is_in nodes node ≡ false → more ≡ nodes ++ node ∷ [] → IsDistinct nat_eq more
apart-push nodes more node apart new e = subst (IsDistinct nat_eq) (sym e) (IsDistinct-push nat_eq_equiv nodes node apart new)

-- how many nodes there are at most
pub few : (flags : List Bool) (nodes : List ℕ) (n : ℕ) → ((a : ℕ) → get_or flags a false ≡ is_in nodes a) → IsDistinct nat_eq nodes → length flags ≡ n
    → length nodes ≤ n
few flags nodes n marked apart e = length-le_from_distinct_below nodes n apart (below_flags flags nodes n marked e)

-- the node at a place is below how many flags there are
pub at_below : (flags : List Bool) (nodes : List ℕ) (n k node : ℕ) → ((a : ℕ) → get_or flags a false ≡ is_in nodes a) → length flags ≡ n
    → k < length nodes → node ≡ get_or nodes k node → node < n
at_below flags nodes n k node marked e l at =
    below_flags flags nodes n marked e node (subst (λ (x : ℕ). is_in nodes x ≡ true) (sym at) (is_in-at nodes k node l))

-- a node in an order is on no cycle
pub not_on_cycle : (g : Graph) (nodes : List ℕ) (a : ℕ) → IsOrder g nodes → is_in nodes a ≡ true → false ≡ is_on_cycle g a
not_on_cycle g nodes a o is =
    sym (settled-no_cycle g (length g) (length g) a (and_right (nat_lt a (length g)) (leads_to_no_cycle g a) (sym (o.has a) ∙ is)))

pub cycles_more : (g : Graph) (now more : List Bool) (node : ℕ) (is : Bool) → now ≡ map (is_on_cycle g) (range_with_len 0 node)
    → is ≡ is_on_cycle g node → more ≡ now ++ is ∷ [] → more ≡ map (is_on_cycle g) (range_with_len 0 (node + 1))
cycles_more g now more node is n i m =
    let same : 0 + node ≡ node = omega arith in
    m ∙ ap (λ (bs : List Bool). bs ++ is ∷ []) n ∙ ap (λ (b : Bool). map (is_on_cycle g) (range_with_len 0 node) ++ b ∷ []) i
    ∙ sym (map-range_with_len_more (is_on_cycle g) 0 node node same)
