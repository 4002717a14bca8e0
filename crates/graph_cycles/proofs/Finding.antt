-- Nodes that are found step by step, those in fewer steps first.
use Rattle.std.proofs.Common.{◌≡◌, ℕ, zero, suc, ◌+◌, ◌<◌, ◌≤◌, Bool, true, false, cond, ◌||◌, ◌⊎◌, inl, inr, ⊎_elim, List, [], ◌∷◌, ◌++◌, length, get_or, nat_eq, eqb-true, refl, sym, ap, subst, ◌∙◌, append-nil, append_assoc, arith, length-append}
use Rattle.std.specs.List.{list_all}
use Rattle.std.proofs.lemmas.List.{get_or_append_left}
use Rattle.std.proofs.Math.Seq.{get_or-append_seam}
use Rattle.graph_cycles.specs.Graphs.{Graph, AreReached, successors, is_in, leads}
use Rattle.graph_cycles.specs.Growing.{with_node, with_nodes}
use Rattle.graph_cycles.proofs.Members.{not_both, or_left, or_right, same_test, itself, all_from, each_of, place_of, is_in-append}
use Rattle.graph_cycles.proofs.Paths.{leads-upto, leads-one, leads-behind, first_step}
use Rattle.graph_cycles.proofs.Orders.{at_or_before, length-push}

-- ---- which nodes stand in the list

-- the nodes with one more are the nodes, and perhaps one behind them
node_cases : (nodes : List ℕ) (a : ℕ) → ((with_node nodes a ≡ nodes) × (is_in nodes a ≡ true)) ⊎ (with_node nodes a ≡ nodes ++ a ∷ [])
node_cases nodes a = by (is_in nodes a) refl
  where
    by : (i : Bool) → is_in nodes a ≡ i → ((cond i nodes (nodes ++ a ∷ []) ≡ nodes) × (is_in nodes a ≡ true)) ⊎ (cond i nodes (nodes ++ a ∷ []) ≡ nodes ++ a ∷ [])
    by true is = inl (refl, is)
    by false is = inr refl

or_absorbs : (a b : Bool) → (b ≡ true → a ≡ true) → a ≡ (a || b)
or_absorbs true b h = refl
or_absorbs false true h = h refl
or_absorbs false false h = refl

pub or_none : (a b : Bool) → (a || (b || false)) ≡ (a || b)
or_none true b = refl
or_none false true = refl
or_none false false = refl

or_assoc : (a b c : Bool) → ((a || b) || c) ≡ (a || (b || c))
or_assoc true b c = refl
or_assoc false b c = refl

is_in-with_node : (nodes : List ℕ) (a q : ℕ) → is_in (with_node nodes a) q ≡ (is_in nodes q || nat_eq q a)
is_in-with_node nodes a q = ⊎_elim
    (λ (h : (with_node nodes a ≡ nodes) × (is_in nodes a ≡ true)).
    ap (λ (ns : List ℕ). is_in ns q) h.0
    ∙ or_absorbs (is_in nodes q) (nat_eq q a) (λ e. subst (λ (x : ℕ). is_in nodes x ≡ true) (sym (eqb-true q a e)) h.1))
    (λ (e : with_node nodes a ≡ nodes ++ a ∷ []).
    ap (λ (ns : List ℕ). is_in ns q) e ∙ is_in-append nodes (a ∷ []) q ∙ or_none (is_in nodes q) (nat_eq q a))
    (node_cases nodes a)

pub is_in-with_nodes : (nodes more : List ℕ) (q : ℕ) → is_in (with_nodes nodes more) q ≡ (is_in nodes q || is_in more q)
is_in-with_nodes nodes [] q = or_absorbs (is_in nodes q) false (λ e. not_both e refl)
is_in-with_nodes nodes (a ∷ more) q =
    is_in-with_nodes (with_node nodes a) more q
    ∙ ap (λ (b : Bool). b || is_in more q) (is_in-with_node nodes a q)
    ∙ or_assoc (is_in nodes q) (nat_eq q a) (is_in more q)

-- ---- what stood in the list stays where it is

pub record Begins (front whole : List ℕ) : Type 0 where
  pub rest : List ℕ
  pub is : whole ≡ front ++ rest

begins-with_node : (nodes : List ℕ) (a : ℕ) → Begins nodes (with_node nodes a)
begins-with_node nodes a = ⊎_elim
    (λ (h : (with_node nodes a ≡ nodes) × (is_in nodes a ≡ true)). record { rest = []; is = h.0 ∙ sym (append-nil nodes) })
    (λ (e : with_node nodes a ≡ nodes ++ a ∷ []). record { rest = a ∷ []; is = e })
    (node_cases nodes a)

pub begins : (nodes more : List ℕ) → Begins nodes (with_nodes nodes more)
begins nodes [] = record { rest = []; is = sym (append-nil nodes) }
begins nodes (a ∷ more) =
    let one = begins-with_node nodes a in
    let all = begins (with_node nodes a) more in
    record {
      rest = one.rest ++ all.rest;
      is = all.is ∙ ap (λ (ns : List ℕ). ns ++ all.rest) one.is ∙ append_assoc nodes one.rest all.rest;
    }

length-begins : (front whole : List ℕ) → Begins front whole → length front ≤ length whole
length-begins front whole b = omega (arith, ap length b.is, length-append front b.rest)

at-begins : (front whole : List ℕ) (k d : ℕ) → Begins front whole → k < length front → get_or whole k d ≡ get_or front k d
at-begins front whole k d b l = ap (λ (ns : List ℕ). get_or ns k d) b.is ∙ get_or_append_left front b.rest d k l

-- ---- how many steps lead there

-- the node at each place is reached in at most one step more than there are before it
abbrev pub InSteps : Graph → ℕ → List ℕ → Type 0
InSteps g start nodes = (k d : ℕ) → k < length nodes → leads (suc k) g start (get_or nodes k d) ≡ true

steps-with_node : (g : Graph) (start : ℕ) (nodes : List ℕ) (a : ℕ) → InSteps g start nodes → leads (suc (length nodes)) g start a ≡ true → InSteps g start (with_node nodes a)
steps-with_node g start nodes a steps t = ⊎_elim
    (λ (h : (with_node nodes a ≡ nodes) × (is_in nodes a ≡ true)). subst (InSteps g start) (sym h.0) steps)
    (λ (e : with_node nodes a ≡ nodes ++ a ∷ []). subst (InSteps g start) (sym e) pushed)
    (node_cases nodes a)
  where
    pushed : InSteps g start (nodes ++ a ∷ [])
    pushed k d l = ⊎_elim
        (λ (m : k < length nodes). subst (λ (x : ℕ). leads (suc k) g start x ≡ true) (sym (get_or_append_left nodes (a ∷ []) d k m)) (steps k d m))
        (λ (e : k ≡ length nodes).
        subst (λ (j : ℕ). leads (suc j) g start (get_or (nodes ++ a ∷ []) j d) ≡ true) (sym e)
        (subst (λ (x : ℕ). leads (suc (length nodes)) g start x ≡ true) (sym (get_or-append_seam nodes a [] d)) t))
        (at_or_before k (length nodes) (omega (arith, length-push nodes a)))

pub steps-with_nodes : (g : Graph) (start m : ℕ) (nodes more : List ℕ) → InSteps g start nodes → m ≤ length nodes
    → ((q : ℕ) → is_in more q ≡ true → leads (suc m) g start q ≡ true) → InSteps g start (with_nodes nodes more)
steps-with_nodes g start m nodes [] steps l each = steps
steps-with_nodes g start m nodes (a ∷ more) steps l each =
    steps-with_nodes g start m (with_node nodes a) more
    (steps-with_node g start nodes a steps (leads-upto g (suc m) (suc (length nodes)) start a (omega arith) (each a (or_left (nat_eq a a) (is_in more a) (itself a)))))
    (omega (arith, length-begins nodes (with_node nodes a) (begins-with_node nodes a)))
    (λ q is. each q (or_right (nat_eq q a) (is_in more q) is))

-- ---- the search

-- the nodes found so far, of which so many were followed
pub record Searched (g : Graph) (start : ℕ) (nodes : List ℕ) (next : ℕ) : Type 0 where
  pub steps : InSteps g start nodes
  pub starts : list_all (is_in nodes) (successors g start) ≡ true
  pub follows : (k d : ℕ) → k < next → list_all (is_in nodes) (successors g (get_or nodes k d)) ≡ true
  pub within : next ≤ length nodes

all-with_nodes : (nodes more list : List ℕ) → list_all (is_in nodes) list ≡ true → list_all (is_in (with_nodes nodes more)) list ≡ true
all-with_nodes nodes more list all = all_from (is_in (with_nodes nodes more)) list
    (λ q is. is_in-with_nodes nodes more q ∙ or_left (is_in nodes q) (is_in more q) (each_of (is_in nodes) list q all is))

all-new : (nodes more : List ℕ) → list_all (is_in (with_nodes nodes more)) more ≡ true
all-new nodes more = all_from (is_in (with_nodes nodes more)) more
    (λ q is. is_in-with_nodes nodes more q ∙ or_right (is_in nodes q) (is_in more q) is)

pub search_starts : (g : Graph) (start : ℕ) (nodes more : List ℕ) → nodes ≡ [] → more ≡ with_nodes nodes (successors g start) → Searched g start more 0
search_starts g start nodes more none e =
    let now : more ≡ with_nodes [] (successors g start) = e ∙ ap (λ (ns : List ℕ). with_nodes ns (successors g start)) none in
    subst (λ (ns : List ℕ). Searched g start ns 0) (sym now) (record {
      steps = steps-with_nodes g start 0 [] (successors g start) (λ k d l. absurd (omega arith)) (omega arith) (λ q t. leads-one g 0 start q t);
      starts = all-new [] (successors g start);
      follows = λ k d l. absurd (omega arith);
      within = omega arith;
    })

followed : (g : Graph) (start : ℕ) (nodes : List ℕ) (next d0 : ℕ) → Searched g start nodes next → next < length nodes
    → Searched g start (with_nodes nodes (successors g (get_or nodes next d0))) (next + 1)
followed g start nodes next d0 s l = record {
  steps = steps-with_nodes g start (suc next) nodes list s.steps (omega arith) (λ q t. leads-behind g (suc next) start (get_or nodes next d0) q (s.steps next d0 l) t);
  starts = all-with_nodes nodes list (successors g start) s.starts;
  follows = λ k d m. ⊎_elim
      (λ (before : k < next).
      subst (λ (x : ℕ). list_all (is_in (with_nodes nodes list)) (successors g x) ≡ true) (sym (at-begins nodes (with_nodes nodes list) k d (begins nodes list) (omega arith)))
      (all-with_nodes nodes list (successors g (get_or nodes k d)) (s.follows k d before)))
      (λ (e : k ≡ next).
      subst (λ (x : ℕ). list_all (is_in (with_nodes nodes list)) (successors g x) ≡ true) (sym (at k d e)) (all-new nodes list))
      (at_or_before k next (omega arith));
  within = omega (arith, length-begins nodes (with_nodes nodes list) (begins nodes list));
}
  where
    list : List ℕ
    list = successors g (get_or nodes next d0)

    get_or-any : (xs : List ℕ) (k d e : ℕ) → k < length xs → get_or xs k d ≡ get_or xs k e
    get_or-any [] k d e l = absurd (omega arith)
    get_or-any (x ∷ xs) zero d e l = refl
    get_or-any (x ∷ xs) (suc k) d e l = get_or-any xs k d e (omega arith)

    at : (k d : ℕ) → k ≡ next → get_or (with_nodes nodes list) k d ≡ get_or nodes next d0
    at k d e = ap (λ (j : ℕ). get_or (with_nodes nodes list) j d) e ∙ at-begins nodes (with_nodes nodes list) next d (begins nodes list) l ∙ get_or-any nodes next d d0 l

pub search_follows : (g : Graph) (start : ℕ) (nodes : List ℕ) (next node : ℕ) (more : List ℕ) → Searched g start nodes next → next < length nodes
    → node ≡ get_or nodes next node → more ≡ with_nodes nodes (successors g node) → Searched g start more (next + 1)
search_follows g start nodes next node more s l at e =
    subst (λ (ns : List ℕ). Searched g start ns (next + 1))
    (sym (e ∙ ap (λ (x : ℕ). with_nodes nodes (successors g x)) at))
    (followed g start nodes next node s l)

-- what is led to from a node whose successors all are found, is found
pub all_found : (g : Graph) (start : ℕ) (nodes : List ℕ) (next : ℕ) → Searched g start nodes next → length nodes ≤ next
    → (n a b : ℕ) → list_all (is_in nodes) (successors g a) ≡ true → leads n g a b ≡ true → is_in nodes b ≡ true
all_found g start nodes next s done zero a b all t = not_both t refl
all_found g start nodes next s done (suc n) a b all t =
    let r = first_step g n a b t in
    let found : is_in nodes r.0 ≡ true = each_of (is_in nodes) (successors g a) r.0 all r.1 in
    ⊎_elim
    (λ (here : r.0 ≡ b). subst (λ (x : ℕ). is_in nodes x ≡ true) here found)
    (λ (later : leads n g r.0 b ≡ true).
    let at = place_of nodes r.0 found in
    all_found g start nodes next s done n r.0 b
    (subst (λ (x : ℕ). list_all (is_in nodes) (successors g x) ≡ true) (at.2 0) (s.follows at.0 0 (omega (arith, at.1)))) later)
    r.2

pub search_ends : (g : Graph) (start : ℕ) (nodes : List ℕ) (next : ℕ) → Searched g start nodes next → length nodes ≤ next → length nodes ≤ length g → AreReached g start nodes
search_ends g start nodes next s done few b = same_test (is_in nodes b) (leads (length g) g start b)
    (λ t. let at = place_of nodes b t in
    leads-upto g (suc at.0) (length g) start b (omega (arith, at.1)) (subst (λ (x : ℕ). leads (suc at.0) g start x ≡ true) (at.2 0) (s.steps at.0 0 at.1)))
    (λ t. all_found g start nodes next s done (length g) start b s.starts t)
