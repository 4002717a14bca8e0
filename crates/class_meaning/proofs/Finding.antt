-- What a name means: the equation of `found`, and where what is found stands.
use Rattle.std.proofs.Common.{◌≡◌, ℕ, zero, suc, ◌≤◌, Bool, true, false, ◌⊎◌, inl, inr, ⊎_elim, List, [], ◌∷◌, is_some, length, map, nat_eq, eq-eqb, refl, ap, sym, subst, ◌∙◌, if◌then◌else◌, arith}
use Rattle.std.specs.List.{list_any, flat_map}
use Rattle.std.proofs.lemmas.Bool.{cases_Bool}
use Rattle.abstract_syntax.specs.Classes.{SpecTree}
use Rattle.graph_cycles.specs.Graphs.{successors, settles}
use Rattle.class_meaning.specs.Classes.{class_graph}
use Rattle.class_meaning.specs.Ancestors.{walk, ancestors}
use Rattle.class_meaning.specs.Found.{agreed, all_agreed, own_in, found_to, found}
use Rattle.class_meaning.specs.declared.ask.Ask.{Ask}
use Rattle.class_meaning.specs.declared.found.Found.{Found}
use Rattle.class_meaning.specs.declared.found.Found.TheVariants.{Nothing, One, Several}
use Rattle.class_meaning.proofs.Numbers.{not_both, or_left, or_right, itself, any_from, any_flat_map, map_same}
use Rattle.class_meaning.proofs.Walks.{successor_settles, superior_settles}
use Rattle.class_meaning.proofs.Firsts.{firsts_in}

-- ---- what superclasses agree on

-- what is agreed on is what one of them finds
pub agreed_one : (a b : Found) (o : ℕ) → agreed a b ≡ One o → (a ≡ One o) ⊎ (b ≡ One o)
agreed_one Nothing b o e = inr e
agreed_one Several b o e = absurd (cc)
agreed_one (One k) Nothing o e = inl e
agreed_one (One k) Several o e = absurd (cc)
agreed_one (One k) (One other) o e = by (nat_eq k other) e
  where
    by : (t : Bool) → (if t then One k else Several) ≡ One o → (One k ≡ One o) ⊎ (One other ≡ One o)
    by true e = inl e
    by false e = absurd (cc)

pub some_agreed : (f : ℕ → Found) (xs : List ℕ) (o : ℕ) → all_agreed (map f xs) ≡ One o → (x : ℕ) × (list_any (nat_eq x) xs ≡ true) × (f x ≡ One o)
some_agreed f [] o e = absurd (cc)
some_agreed f (x ∷ xs) o e = ⊎_elim
    (λ here. (x, or_left (nat_eq x x) (list_any (nat_eq x) xs) (itself x), here))
    (λ later. let r = some_agreed f xs o later in (r.0, or_right (nat_eq r.0 x) (list_any (nat_eq r.0) xs) r.1, r.2))
    (agreed_one (f x) (all_agreed (map f xs)) o e)

-- where none finds anything nothing is agreed on
pub none_agreed : (f : ℕ → Found) (xs : List ℕ) → ((x : ℕ) → list_any (nat_eq x) xs ≡ true → f x ≡ Nothing) → all_agreed (map f xs) ≡ Nothing
none_agreed f [] each = refl
none_agreed f (x ∷ xs) each =
    ap (λ (a : Found). agreed a (all_agreed (map f xs))) (each x (or_left (nat_eq x x) (list_any (nat_eq x) xs) (itself x)))
    ∙ none_agreed f xs (λ a is. each a (or_right (nat_eq a x) (list_any (nat_eq a) xs) is))

module _ (spec : SpecTree) (ask : Ask) where
  -- more levels find the same
  pub more_found : (n m k : ℕ) → n ≤ m → settles n (class_graph spec) k ≡ true → found_to m spec ask k ≡ found_to n spec ask k
  more_found zero m k l t = not_both t refl
  more_found (suc n) zero k l t = absurd (omega arith)
  more_found (suc n) (suc m) k l t =
      ap (λ (above : List Found). if is_some (own_in spec ask k) then One k else all_agreed above)
      (map_same (found_to m spec ask) (found_to n spec ask) (successors (class_graph spec) k)
      (λ b is. more_found n m b (omega arith) (successor_settles (class_graph spec) n k b t is)))

  -- where a class doesn't settle nothing is found
  pub found_unsettled : (k : ℕ) → settles (length (class_graph spec)) (class_graph spec) k ≡ false → found spec ask k ≡ Nothing
  found_unsettled k f = ap (λ (b : Bool). if b then found_to (length (class_graph spec)) spec ask k else Nothing) f

  pub found_settled : (k : ℕ) → settles (length (class_graph spec)) (class_graph spec) k ≡ true
      → found spec ask k ≡ found_to (length (class_graph spec)) spec ask k
  found_settled k t = ap (λ (b : Bool). if b then found_to (length (class_graph spec)) spec ask k else Nothing) t

  -- the class's own, else what its superclasses agree on
  pub found_equation : (k : ℕ) → settles (length (class_graph spec)) (class_graph spec) k ≡ true
      → found spec ask k ≡ (if is_some (own_in spec ask k) then One k else all_agreed (map (found spec ask) (successors (class_graph spec) k)))
  found_equation k t =
      found_settled k t
      ∙ sym (more_found (length (class_graph spec)) (suc (length (class_graph spec))) k (omega arith) t)
      ∙ ap (λ (above : List Found). if is_some (own_in spec ask k) then One k else all_agreed above)
      (map_same (found_to (length (class_graph spec)) spec ask) (found spec ask) (successors (class_graph spec) k)
      (λ b is. sym (found_settled b (superior_settles (class_graph spec) (length (class_graph spec)) k b t is))))

  -- ---- where it stands

  found_to_none : (n k : ℕ) → ((a : ℕ) → list_any (nat_eq a) (walk n (class_graph spec) k) ≡ true → is_some (own_in spec ask a) ≡ false)
      → found_to n spec ask k ≡ Nothing
  found_to_none zero k each = refl
  found_to_none (suc n) k each =
      ap (λ (b : Bool). if b then One k else all_agreed (map (found_to n spec ask) (successors (class_graph spec) k)))
      (each k (or_left (nat_eq k k) (list_any (nat_eq k) (flat_map (walk n (class_graph spec)) (successors (class_graph spec) k))) (itself k)))
      ∙ none_agreed (found_to n spec ask) (successors (class_graph spec) k)
      (λ b is. found_to_none n b (λ a in_it. each a
      (or_right (nat_eq a k) (list_any (nat_eq a) (flat_map (walk n (class_graph spec)) (successors (class_graph spec) k)))
      (any_flat_map (nat_eq a) (walk n (class_graph spec)) (successors (class_graph spec) k)
      ∙ any_from (λ (x : ℕ). list_any (nat_eq a) (walk n (class_graph spec) x)) (successors (class_graph spec) k) b is in_it))))

  -- nothing is found where no ancestor has a definition of its own
  pub found_none : (k : ℕ) → ((a : ℕ) → list_any (nat_eq a) (ancestors spec k) ≡ true → is_some (own_in spec ask a) ≡ false)
      → found spec ask k ≡ Nothing
  found_none k each = ⊎_elim
      (λ (t : settles (length (class_graph spec)) (class_graph spec) k ≡ true).
      found_settled k t
      ∙ sym (more_found (length (class_graph spec)) (suc (length (class_graph spec))) k (omega arith) t)
      ∙ found_to_none (suc (length (class_graph spec))) k
      (λ a is. each a (firsts_in (walk (suc (length (class_graph spec))) (class_graph spec) k) a ∙ is)))
      (λ (f : settles (length (class_graph spec)) (class_graph spec) k ≡ false). found_unsettled k f)
      (cases_Bool (settles (length (class_graph spec)) (class_graph spec) k))

  found_to_one : (n k o : ℕ) → found_to n spec ask k ≡ One o
      → (is_some (own_in spec ask o) ≡ true) × (list_any (nat_eq o) (walk n (class_graph spec) k) ≡ true)
  found_to_one zero k o e = absurd (cc)
  found_to_one (suc n) k o e = ⊎_elim
      (λ (t : is_some (own_in spec ask k) ≡ true).
      let here : One k ≡ One o =
      sym (ap (λ (b : Bool). if b then One k else all_agreed (map (found_to n spec ask) (successors (class_graph spec) k))) t) ∙ e in
      let same : k ≡ o = cc in (
        subst (λ (x : ℕ). is_some (own_in spec ask x) ≡ true) same t,
        or_left (nat_eq o k) (list_any (nat_eq o) (flat_map (walk n (class_graph spec)) (successors (class_graph spec) k))) (eq-eqb o k (sym same)),
      ))
      (λ (f : is_some (own_in spec ask k) ≡ false).
      let above : all_agreed (map (found_to n spec ask) (successors (class_graph spec) k)) ≡ One o =
      sym (ap (λ (b : Bool). if b then One k else all_agreed (map (found_to n spec ask) (successors (class_graph spec) k))) f) ∙ e in
      let r = some_agreed (found_to n spec ask) (successors (class_graph spec) k) o above in
      let there = found_to_one n r.0 o r.2 in (
        there.0,
        or_right (nat_eq o k) (list_any (nat_eq o) (flat_map (walk n (class_graph spec)) (successors (class_graph spec) k)))
            (any_flat_map (nat_eq o) (walk n (class_graph spec)) (successors (class_graph spec) k)
            ∙ any_from (λ (x : ℕ). list_any (nat_eq o) (walk n (class_graph spec) x)) (successors (class_graph spec) k) r.0 r.1 there.1),
      ))
      (cases_Bool (is_some (own_in spec ask k)))

  -- what is found has its own definition, and is an ancestor
  pub found_one : (k o : ℕ) → found spec ask k ≡ One o → (is_some (own_in spec ask o) ≡ true) × (list_any (nat_eq o) (ancestors spec k) ≡ true)
  found_one k o e = ⊎_elim
      (λ (t : settles (length (class_graph spec)) (class_graph spec) k ≡ true).
      let r = found_to_one (suc (length (class_graph spec))) k o
      (more_found (length (class_graph spec)) (suc (length (class_graph spec))) k (omega arith) t ∙ sym (found_settled k t) ∙ e) in
      (r.0, firsts_in (walk (suc (length (class_graph spec))) (class_graph spec) k) o ∙ r.1))
      (λ (f : settles (length (class_graph spec)) (class_graph spec) k ≡ false).
      let none : Nothing ≡ One o = sym (found_unsettled k f) ∙ e in absurd (cc))
      (cases_Bool (settles (length (class_graph spec)) (class_graph spec) k))
