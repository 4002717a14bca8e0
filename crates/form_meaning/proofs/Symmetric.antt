-- Meeting is symmetric.
use Rattle.std.proofs.Common.{◌≡◌, ℕ, Bool, true, false, ◌&&◌, ◌||◌, List, [], ◌∷◌, nat_eq, refl, ◌∙◌, arith}
use Rattle.std.proofs.lemmas.Bool.Decides.{nat_tests}
use Rattle.vdm_kinds.specs.declared.name.Name.{Name}
use Rattle.abstract_syntax.specs.Classes.{is_same_name}
use Rattle.form_meaning.specs.Forms.{
  FormTree,
  any_form,
  no_form,
  one_of,
  AltTree,
  nil_alt,
  boolean_alt,
  number_alt,
  character_alt,
  quote_alt,
  token_alt,
  tuple_alt,
  record_alt,
  sequence_alt,
  set_alt,
  map_alt,
  object_alt,
  named_alt,
  AltTrees,
  no_alts,
  one_alt,
  form_count,
}
use Rattle.form_meaning.specs.Meeting.{classes_meet, alternatives_meet, meets_one, some_meet, meets}

either_way : (a b : Bool) → (a || b) ≡ (b || a)
either_way true true = refl
either_way true false = refl
either_way false true = refl
either_way false false = refl

both_ways : (a b : Bool) → (a && b) ≡ (b && a)
both_ways true true = refl
both_ways true false = refl
both_ways false true = refl
both_ways false false = refl

-- of four, the second and the third change places
middle : (a b c d : Bool) → ((a || b) || (c || d)) ≡ ((a || c) || (b || d))
middle true b c d = refl
middle false true true d = refl
middle false true false d = refl
middle false false true d = refl
middle false false false d = refl

same_number : (m n : ℕ) → nat_eq m n ≡ nat_eq n m
same_number m n = grind (arith, nat_tests)

same_names : (a b c d : Name) → (is_same_name a b && is_same_name c d) ≡ (is_same_name b a && is_same_name d c)
same_names a b c d = λ i. same_number a.0 b.0 i && same_number c.0 d.0 i

module _ (descends : Name → Name → Bool) where
  below_both : (classes : List Name) (a b : Name) → classes_meet descends classes a b ≡ classes_meet descends classes b a
  below_both [] a b = refl
  below_both (class ∷ classes) a b = λ i. both_ways (descends class a) (descends class b) i || below_both classes a b i

  module _ (classes : List Name) where
    alternatives : (a b : AltTree) → alternatives_meet descends classes a b ≡ alternatives_meet descends classes b a
    alternatives nil_alt nil_alt = refl
    alternatives boolean_alt boolean_alt = refl
    alternatives number_alt number_alt = refl
    alternatives character_alt character_alt = refl
    alternatives (quote_alt name) (quote_alt other) = same_number name.0 other.0
    alternatives token_alt token_alt = refl
    alternatives (tuple_alt parts) (tuple_alt others) = same_number (form_count parts) (form_count others)
    alternatives (record_alt class name) (record_alt other_class other) = same_names class other_class name other
    alternatives (sequence_alt items) (sequence_alt others) = refl
    alternatives (set_alt elements) (set_alt others) = refl
    alternatives (map_alt keys values) (map_alt other_keys other_values) = refl
    alternatives (object_alt class) (object_alt other) = below_both classes class other
    alternatives (named_alt class name) (named_alt other_class other) = same_names class other_class name other
    alternatives _ _ = refl

    -- none of no alternatives is met
    none : (xs : AltTrees) → some_meet descends classes xs no_alts ≡ false
    none no_alts = refl
    none (one_alt x xs) = none xs

    -- one alternative more on the right
    one_more : (xs : AltTrees) (b : AltTree) (ys : AltTrees)
        → some_meet descends classes xs (one_alt b ys) ≡ (meets_one descends classes b xs || some_meet descends classes xs ys)
    one_more no_alts b ys = refl
    one_more (one_alt x xs) b ys =
        (λ i. (alternatives x b i || meets_one descends classes x ys) || one_more xs b ys i)
        ∙ middle (alternatives_meet descends classes b x) (meets_one descends classes x ys) (meets_one descends classes b xs)
        (some_meet descends classes xs ys)

    lists : (xs ys : AltTrees) → some_meet descends classes xs ys ≡ some_meet descends classes ys xs
    lists xs no_alts = none xs
    lists xs (one_alt y ys) = one_more xs y ys ∙ (λ i. meets_one descends classes y xs || lists xs ys i)

    pub symmetric : (a b : FormTree) → meets descends classes a b ≡ meets descends classes b a
    symmetric any_form any_form = refl
    symmetric any_form no_form = refl
    symmetric any_form (one_of bs) = refl
    symmetric no_form any_form = refl
    symmetric no_form no_form = refl
    symmetric no_form (one_of bs) = refl
    symmetric (one_of xs) any_form = refl
    symmetric (one_of xs) no_form = refl
    symmetric (one_of xs) (one_of ys) = lists xs ys
