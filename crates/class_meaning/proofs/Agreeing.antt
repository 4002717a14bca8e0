-- What superclasses agree on, and what a class finds by them.
use Rattle.std.proofs.Common.{◌≡◌, ◌↔◌, ℕ, Bool, true, false, ◌⊎◌, inl, inr, ⊎_elim, List, [], ◌∷◌, is_some, length, map, nat_eq, eqb-true, refl, ap, sym, subst, ◌∙◌, if◌then◌else◌}
use Rattle.std.specs.List.{list_any}
use Rattle.abstract_syntax.specs.Classes.{SpecTree}
use Rattle.graph_cycles.specs.Graphs.{successors, settles}
use Rattle.class_meaning.specs.Classes.{class_graph}
use Rattle.class_meaning.specs.Found.{agreed, all_agreed, own_in, found}
use Rattle.class_meaning.specs.Laws.{IsSuperclass, OneAbove, Disagree}
use Rattle.class_meaning.specs.declared.ask.Ask.{Ask}
use Rattle.class_meaning.specs.declared.found.Found.{Found}
use Rattle.class_meaning.specs.declared.found.Found.TheVariants.{Nothing, One, Several}
use Rattle.class_meaning.proofs.Numbers.{not_both, or_left, or_right, or_cases, itself}
use Rattle.class_meaning.proofs.Finding.{some_agreed, none_agreed, found_equation}

-- nothing, or this one
abbrev AtMost : ℕ → Found → Type 0
AtMost o a = (a ≡ Nothing) ⊎ (a ≡ One o)

agreed_none : (a b : Found) → agreed a b ≡ Nothing → (a ≡ Nothing) × (b ≡ Nothing)
agreed_none Nothing b e = (refl, e)
agreed_none Several b e = absurd (cc)
agreed_none (One k) Nothing e = absurd (cc)
agreed_none (One k) Several e = absurd (cc)
agreed_none (One k) (One other) e = by (nat_eq k other) e
  where
    by : (t : Bool) → (if t then One k else Several) ≡ Nothing → (One k ≡ Nothing) × (One other ≡ Nothing)
    by true d = absurd (cc)
    by false d = absurd (cc)

agreed_each : (a b : Found) (o : ℕ) → agreed a b ≡ One o → AtMost o a × AtMost o b
agreed_each Nothing b o e = (inl refl, inr e)
agreed_each Several b o e = absurd (cc)
agreed_each (One k) Nothing o e = (inr e, inl refl)
agreed_each (One k) Several o e = absurd (cc)
agreed_each (One k) (One other) o e = by (nat_eq k other) refl e
  where
    by : (t : Bool) → nat_eq k other ≡ t → (if t then One k else Several) ≡ One o → AtMost o (One k) × AtMost o (One other)
    by true s d = (inr d, inr (ap One (sym (eqb-true k other s)) ∙ d))
    by false s d = absurd (cc)

agreed_at_most : (a b : Found) (o : ℕ) → AtMost o a → AtMost o b → AtMost o (agreed a b)
agreed_at_most a b o (inl e) h = subst (λ (c : Found). AtMost o (agreed c b)) (sym e) h
agreed_at_most a b o (inr e) (inl d) =
    inr (ap (λ (c : Found). agreed c b) e ∙ ap (agreed (One o)) d)
agreed_at_most a b o (inr e) (inr d) =
    inr (ap (λ (c : Found). agreed c b) e ∙ ap (agreed (One o)) d ∙ ap (λ (t : Bool). if t then One o else Several) (itself o))

-- two that find two classes
abbrev Differ : Found → Found → Type 0
Differ a b = (p : ℕ) × (q : ℕ) × (a ≡ One p) × (b ≡ One q) × (nat_eq p q ≡ false)

agreed_several : (a b : Found) → agreed a b ≡ Several → (a ≡ Several) ⊎ ((b ≡ Several) ⊎ Differ a b)
agreed_several Nothing b e = inr (inl e)
agreed_several Several b e = inl refl
agreed_several (One k) Nothing e = absurd (cc)
agreed_several (One k) Several e = inr (inl refl)
agreed_several (One k) (One other) e = by (nat_eq k other) refl e
  where
    by : (t : Bool) → nat_eq k other ≡ t → (if t then One k else Several) ≡ Several
        → (One k ≡ Several) ⊎ ((One other ≡ Several) ⊎ Differ (One k) (One other))
    by true s d = absurd (cc)
    by false s d = inr (inr (k, other, refl, refl, s))

module _ (f : ℕ → Found) where
  each_none : (xs : List ℕ) → all_agreed (map f xs) ≡ Nothing → (x : ℕ) → list_any (nat_eq x) xs ≡ true → f x ≡ Nothing
  each_none [] e x t = not_both t refl
  each_none (y ∷ xs) e x t =
      let both = agreed_none (f y) (all_agreed (map f xs)) e in
      ⊎_elim
      (λ (here : nat_eq x y ≡ true). subst (λ (z : ℕ). f z ≡ Nothing) (sym (eqb-true x y here)) both.0)
      (λ (later : list_any (nat_eq x) xs ≡ true). each_none xs both.1 x later)
      (or_cases (nat_eq x y) (list_any (nat_eq x) xs) t)

  each_at_most : (xs : List ℕ) (o : ℕ) → all_agreed (map f xs) ≡ One o → (x : ℕ) → list_any (nat_eq x) xs ≡ true → AtMost o (f x)
  each_at_most [] o e x t = not_both t refl
  each_at_most (y ∷ xs) o e x t =
      let both = agreed_each (f y) (all_agreed (map f xs)) o e in
      ⊎_elim
      (λ (here : nat_eq x y ≡ true). subst (λ (z : ℕ). AtMost o (f z)) (sym (eqb-true x y here)) both.0)
      (λ (later : list_any (nat_eq x) xs ≡ true). ⊎_elim
      (λ (n : all_agreed (map f xs) ≡ Nothing). inl (each_none xs n x later))
      (λ (d : all_agreed (map f xs) ≡ One o). each_at_most xs o d x later)
      both.1)
      (or_cases (nat_eq x y) (list_any (nat_eq x) xs) t)

  all_at_most : (xs : List ℕ) (o : ℕ) → ((x : ℕ) → list_any (nat_eq x) xs ≡ true → AtMost o (f x)) → AtMost o (all_agreed (map f xs))
  all_at_most [] o each = inl refl
  all_at_most (y ∷ xs) o each = agreed_at_most (f y) (all_agreed (map f xs)) o (each y (or_left (nat_eq y y) (list_any (nat_eq y) xs) (itself y)))
      (all_at_most xs o (λ x is. each x (or_right (nat_eq x y) (list_any (nat_eq x) xs) is)))

  -- the one that some find and none disputes
  one_agreed : (xs : List ℕ) (o x : ℕ) → list_any (nat_eq x) xs ≡ true → f x ≡ One o
      → ((y : ℕ) → list_any (nat_eq y) xs ≡ true → AtMost o (f y)) → all_agreed (map f xs) ≡ One o
  one_agreed xs o x is e each = ⊎_elim
      (λ (n : all_agreed (map f xs) ≡ Nothing). let none : f x ≡ Nothing = each_none xs n x is in absurd (cc))
      (λ d. d)
      (all_at_most xs o each)

  -- no agreement
  abbrev Quarrel : List ℕ → Type 0
  Quarrel xs =
      ((s : ℕ) × (list_any (nat_eq s) xs ≡ true) × (f s ≡ Several))
      ⊎ ((s : ℕ) × (t : ℕ) × (p : ℕ) × (q : ℕ) × (list_any (nat_eq s) xs ≡ true) × (list_any (nat_eq t) xs ≡ true) × (f s ≡ One p) × (f t ≡ One q)
      × (nat_eq p q ≡ false))

  quarrel_later : (y : ℕ) (xs : List ℕ) → Quarrel xs → Quarrel (y ∷ xs)
  quarrel_later y xs (inl h) = inl (h.0, or_right (nat_eq h.0 y) (list_any (nat_eq h.0) xs) h.1, h.2)
  quarrel_later y xs (inr h) = inr (
    h.0,
    h.1,
    h.2,
    h.3,
    or_right (nat_eq h.0 y) (list_any (nat_eq h.0) xs) h.4,
    or_right (nat_eq h.1 y) (list_any (nat_eq h.1) xs) h.5,
    h.6,
    h.7,
    h.8,
  )

  quarrel_from : (xs : List ℕ) → all_agreed (map f xs) ≡ Several → Quarrel xs
  quarrel_from [] e = absurd (cc)
  quarrel_from (y ∷ xs) e = ⊎_elim
      (λ (here : f y ≡ Several). inl (y, or_left (nat_eq y y) (list_any (nat_eq y) xs) (itself y), here))
      (λ (rest : (all_agreed (map f xs) ≡ Several) ⊎ Differ (f y) (all_agreed (map f xs))). ⊎_elim
      (λ (later : all_agreed (map f xs) ≡ Several). quarrel_later y xs (quarrel_from xs later))
      (λ (d : Differ (f y) (all_agreed (map f xs))).
      let other = some_agreed f xs d.1 d.3 in
      inr (
        y,
        other.0,
        d.0,
        d.1,
        or_left (nat_eq y y) (list_any (nat_eq y) xs) (itself y),
        or_right (nat_eq other.0 y) (list_any (nat_eq other.0) xs) other.1,
        d.2,
        other.2,
        d.4,
      ))
      rest)
      (agreed_several (f y) (all_agreed (map f xs)) e)

  not_two : (o p q : ℕ) → AtMost o (One p) → AtMost o (One q) → nat_eq p q ≡ true
  not_two o p q (inl e) h = absurd (cc)
  not_two o p q (inr e) (inl d) = absurd (cc)
  not_two o p q (inr e) (inr d) = let same : p ≡ q = cc in ap (nat_eq p) (sym same) ∙ itself p

  quarrel_shows : (xs : List ℕ) (a : Found) → all_agreed (map f xs) ≡ a → Quarrel xs → a ≡ Several
  quarrel_shows xs Several e h = refl
  quarrel_shows xs Nothing e (inl h) = let none : f h.0 ≡ Nothing = each_none xs e h.0 h.1 in let several = h.2 in absurd (cc)
  quarrel_shows xs Nothing e (inr h) = let none : f h.0 ≡ Nothing = each_none xs e h.0 h.4 in let one = h.6 in absurd (cc)
  quarrel_shows xs (One o) e (inl h) = absurd (no_several (subst (AtMost o) h.2 (each_at_most xs o e h.0 h.1)))
    where
      no_several : AtMost o Several → ⊥
      no_several (inl d) = cc
      no_several (inr d) = cc
  quarrel_shows xs (One o) e (inr h) =
      not_both (not_two o h.2 h.3 (subst (AtMost o) h.6 (each_at_most xs o e h.0 h.4)) (subst (AtMost o) h.7 (each_at_most xs o e h.1 h.5))) h.8

-- ---- what a class finds

module _ (spec : SpecTree) (ask : Ask) (k : ℕ) (settled : settles (length (class_graph spec)) (class_graph spec) k ≡ true) where
  -- its own
  pub found_own : is_some (own_in spec ask k) ≡ true → found spec ask k ≡ One k
  found_own t = found_equation spec ask k settled
      ∙ ap (λ (b : Bool). if b then One k else all_agreed (map (found spec ask) (successors (class_graph spec) k))) t

  -- or what its superclasses agree on
  pub found_above : is_some (own_in spec ask k) ≡ false → found spec ask k ≡ all_agreed (map (found spec ask) (successors (class_graph spec) k))
  found_above f = found_equation spec ask k settled
      ∙ ap (λ (b : Bool). if b then One k else all_agreed (map (found spec ask) (successors (class_graph spec) k))) f

  pub found_one_above : (o : ℕ) → is_some (own_in spec ask k) ≡ false → (found spec ask k ≡ One o) ↔ OneAbove spec ask k o
  found_one_above o f = (
    λ e. record {
      some = some_agreed (found spec ask) (successors (class_graph spec) k) o (sym (found_above f) ∙ e);
      each = each_at_most (found spec ask) (successors (class_graph spec) k) o (sym (found_above f) ∙ e);
    },
    λ h. found_above f ∙ one_agreed (found spec ask) (successors (class_graph spec) k) o h.some.0 h.some.1 h.some.2 h.each,
  )

  pub found_none_above : is_some (own_in spec ask k) ≡ false
      → (found spec ask k ≡ Nothing) ↔ ((s : ℕ) → IsSuperclass spec k s → found spec ask s ≡ Nothing)
  found_none_above f = (
    λ e. each_none (found spec ask) (successors (class_graph spec) k) (sym (found_above f) ∙ e),
    λ h. found_above f ∙ none_agreed (found spec ask) (successors (class_graph spec) k) h,
  )

  pub found_several_above : is_some (own_in spec ask k) ≡ false → (found spec ask k ≡ Several) ↔ Disagree spec ask k
  found_several_above f = (
    λ e. quarrel_from (found spec ask) (successors (class_graph spec) k) (sym (found_above f) ∙ e),
    λ h. found_above f ∙ quarrel_shows (found spec ask) (successors (class_graph spec) k)
        (all_agreed (map (found spec ask) (successors (class_graph spec) k))) refl h,
  )
