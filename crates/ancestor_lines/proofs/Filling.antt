-- Lists for the nodes that lead to a cycle.
use Rattle.std.proofs.Common.{◌≡◌, ◌≢◌, ℕ, ◌+◌, ◌<◌, ◌≤◌, Bool, true, false, ◌||◌, ◌⊎◌, inl, inr, ⊎_elim, List, [], ◌∷◌, length, get_or, set, nat_eq, eqb-true, refl, ap, sym, subst, ◌∙◌, arith, if◌then◌else◌, Vec}
use Rattle.std.proofs.lemmas.List.{length-set, get_or-set_same, get_or-set_other, map-set}
use Rattle.graph_cycles.specs.Graphs.{Graph, graph_of, is_in, leads, leads_to_no_cycle, AreReached}
use Rattle.graph_cycles.specs.Growing.{with_node}
use Rattle.graph_cycles.proofs.Finding.{is_in-with_nodes}
use Rattle.graph_cycles.proofs.Members.{not_both, itself}
use Rattle.class_meaning.specs.Ancestors.{ancestors_in}
use Rattle.class_meaning.proofs.Numbers.{flipped}
use Rattle.class_meaning.proofs.Walks.{ancestors_has, ancestors_has_itself}
use Rattle.ancestor_lines.specs.Lines.{AreLines, AreSettled}

-- the node's own list
pub record IsLine (g : Graph) (a : ℕ) (line : List ℕ) : Type 0 where
  pub same : leads_to_no_cycle g a ≡ true → line ≡ ancestors_in g a
  pub members : (b : ℕ) → is_in line b ≡ is_in (ancestors_in g a) b

-- a node from so many on that leads to a cycle has no list as yet
pub record IsPending (g : Graph) (node a : ℕ) (line : List ℕ) : Type 0 where
  pub later : node ≤ a
  pub cyclic : leads_to_no_cycle g a ≡ false
  pub none : line ≡ []

pub record FilledSoFar (g : Graph) (node : ℕ) (lines : List (List ℕ)) : Type 0 where
  pub count : length lines ≡ length g
  pub each : (a : ℕ) → a < length g → IsLine g a (get_or lines a []) ⊎ IsPending g node a (get_or lines a [])

-- ---- what is reached

-- all that a node leads to, and the node itself
pub reached : (g : Graph) (start : ℕ) (nodes more line : List ℕ) → AreReached g start nodes → more ≡ with_node nodes start → line ≡ more
    → (b : ℕ) → is_in line b ≡ is_in (ancestors_in g start) b
reached g start nodes more line are e is b =
    ap (λ (ns : List ℕ). is_in ns b) (is ∙ e)
    ∙ is_in-with_nodes nodes (start ∷ []) b
    ∙ ap (λ (t : Bool). t || is_in (start ∷ []) b) (are b)
    ∙ turned (leads (length g) g start b) (nat_eq b start)
    ∙ ap (λ (t : Bool). t || leads (length g) g start b) (flipped b start)
    ∙ sym (ancestors_has g start b)
  where
    turned : (s t : Bool) → (s || (t || false)) ≡ (t || s)
    turned true true = refl
    turned true false = refl
    turned false true = refl
    turned false false = refl

-- ---- node by node

pub fill_starts : (g : Graph) (lines : List (List ℕ)) → AreSettled g lines → FilledSoFar g 0 lines
fill_starts g lines s = record { count = s.count; each = λ a l. by a (leads_to_no_cycle g a) refl (s.each a l) }
  where
    by : (a : ℕ) (t : Bool) → leads_to_no_cycle g a ≡ t → get_or lines a [] ≡ (if t then ancestors_in g a else [])
        → IsLine g a (get_or lines a []) ⊎ IsPending g 0 a (get_or lines a [])
    by a true t e = inl (record { same = λ _. e; members = λ b. ap (λ (ns : List ℕ). is_in ns b) e })
    by a false f e = inr (record { later = omega arith; cyclic = f; none = e })

-- a node that has a list
pub fill_kept : (g : Graph) (node : ℕ) (lines : List (List ℕ)) → FilledSoFar g node lines → get_or lines node [] ≢ [] → FilledSoFar g (node + 1) lines
fill_kept g node lines s some = record {
  count = s.count;
  each = λ a l. ⊎_elim
      (λ (x : IsLine g a (get_or lines a [])). inl x)
      (λ (p : IsPending g node a (get_or lines a [])).
      let other : a ≢ node = λ same. some (subst (λ (x : ℕ). get_or lines x [] ≡ []) same p.none) in
      inr (record { later = omega (arith, p.later, other); cyclic = p.cyclic; none = p.none }))
      (s.each a l);
}

-- an empty list is no node's own, so its node leads to a cycle
empty_cyclic : (g : Graph) (node a : ℕ) (line : List ℕ) → line ≡ [] → IsLine g a line ⊎ IsPending g node a line → leads_to_no_cycle g a ≡ false
empty_cyclic g node a line none s = ⊎_elim
    (λ (x : IsLine g a line).
    not_both (ancestors_has_itself g a) (sym (x.members a) ∙ ap (λ (ns : List ℕ). is_in ns a) none))
    (λ (p : IsPending g node a line). p.cyclic)
    s

more : (g : Graph) (node : ℕ) (lines : List (List ℕ)) (line : List ℕ) → FilledSoFar g node lines → node < length g → get_or lines node [] ≡ []
    → ((b : ℕ) → is_in line b ≡ is_in (ancestors_in g node) b) → FilledSoFar g (node + 1) (set lines node line)
more g node lines line s l none members = record { count = length-set lines node line ∙ s.count; each = λ a m. by a m (nat_eq a node) refl }
  where
    cyclic : leads_to_no_cycle g node ≡ false
    cyclic = empty_cyclic g node node (get_or lines node []) none (s.each node l)

    here : IsLine g node line
    here = record { same = λ t. not_both t cyclic; members = members }

    by : (a : ℕ) → a < length g → (e : Bool) → nat_eq a node ≡ e → IsLine g a (get_or (set lines node line) a []) ⊎ IsPending g (node + 1) a (get_or (set lines node line) a [])
    by a m true t =
        inl (subst (λ (x : ℕ). IsLine g x (get_or (set lines node line) x [])) (sym (eqb-true a node t))
        (subst (IsLine g node) (sym (get_or-set_same lines node line [] (omega (arith, s.count, l)))) here))
    by a m false f =
        let other : a ≢ node = λ same. not_both (subst (λ (x : ℕ). nat_eq a x ≡ true) same (itself a)) f in
        subst (λ (xs : List ℕ). IsLine g a xs ⊎ IsPending g (node + 1) a xs) (sym (get_or-set_other lines node a line [] other))
        (⊎_elim
        (λ (x : IsLine g a (get_or lines a [])). inl x)
        (λ (p : IsPending g node a (get_or lines a [])). inr (record { later = omega (arith, p.later, other); cyclic = p.cyclic; none = p.none }))
        (s.each a m))

pub fill_more : {A : Type 0} (g : Graph) (node : ℕ) (lines : List (Vec ℕ A)) (line : Vec ℕ A) → FilledSoFar g node (graph_of lines) → node < length g
    → get_or (graph_of lines) node [] ≡ [] → ((b : ℕ) → is_in line.items b ≡ is_in (ancestors_in g node) b)
    → FilledSoFar g (node + 1) (graph_of (set lines node line))
fill_more {A} g node lines line s l none members =
    subst (FilledSoFar g (node + 1)) (sym (map-set (λ (list : Vec ℕ A). list.items) lines node line)) (more g node (graph_of lines) line.items s l none members)

pub fill_ends : (g : Graph) (node : ℕ) (lines : List (List ℕ)) → length g ≤ node → FilledSoFar g node lines → AreLines g lines
fill_ends g node lines m s = record {
  count = s.count;
  same = λ a l. (line a l).same;
  members = λ a b l. (line a l).members b;
}
  where
    line : (a : ℕ) → a < length g → IsLine g a (get_or lines a [])
    line a l = ⊎_elim
        (λ (x : IsLine g a (get_or lines a [])). x)
        (λ (p : IsPending g node a (get_or lines a [])). absurd (omega (arith, p.later, l, m)))
        (s.each a l)
