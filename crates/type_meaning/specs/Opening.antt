-- A definition wants of a value what its body wants, and its own invariant: how many definitions may be in a row does not matter.
use Rattle.std.proofs.Common.{◌≡◌, ℕ, zero, suc, ◌<◌, List, [], ◌∷◌, ◌++◌, Option, Some, None, if◌then◌else◌, refl, ap, sym, ◌∙◌, arith}
use Rattle.std.specs.Prelude.{Bool}
use Rattle.std.specs.List.{AllByRecursion as Each}
use Rattle.vdm_kinds.specs.declared.name.Name.{Name}
use Rattle.vdm_kinds.specs.declared.name_at.TypeName.{TypeName}
use Rattle.abstract_syntax.specs.Types.{TypeTree, TypeTrees, basic_type, quote_type, set_type, seq_type, seq1_type, map_type, inmap_type, optional_type, bracketed_type, named_type, product_type, union_type, no_types, one_type}
use Rattle.abstract_syntax.specs.Classes.{TypeBody, same_as, with_fields, TypeDefTree}
use Rattle.abstract_syntax.specs.Values.{ValueTree}
use Rattle.expr_tree.specs.Alternatives.{Finder, IsRanked, alternatives, alternatives_among, body_alternatives}
use Rattle.type_meaning.specs.Tests.{Tests, no_tests, Choices, with_choice, one_of}
use Rattle.type_meaning.specs.Shapes.{Parts, is_nil, class_test, name_test, type_test, choices, body_test, with_own, definition_test, opened, parts_of, tests_by}

each_left : {A : Type 0} (P : A → Type 0) (xs ys : List A) → Each P (xs ++ ys) → Each P xs
each_left P [] ys all = tt
each_left P (x ∷ xs) ys all = (all.0, each_left P xs ys all.1)

each_right : {A : Type 0} (P : A → Type 0) (xs ys : List A) → Each P (xs ++ ys) → Each P ys
each_right P [] ys all = all
each_right P (x ∷ xs) ys all = each_right P xs ys all.1

module _ (find : Finder) (descends : Name → Name → Bool) (rank : TypeDefTree → ℕ) (v : ValueTree) (parts : Parts) where
  -- two ways of opening that agree on each definition of a lower rank
  abbrev Agree : ℕ → (TypeDefTree → Option Tests) → (TypeDefTree → Option Tests) → Type 0
  Agree n f g = (scope : Name) (class : Option Name) (name : Name) (d : TypeDefTree) → find scope class name ≡ Some d → rank d < n → f d ≡ g d

  abbrev Lower : Name → ℕ → TypeName → Type 0
  Lower scope n other = (next : TypeDefTree) → find scope other.class other.name ≡ Some next → rank next < n

  module _ (n : ℕ) (f g : TypeDefTree → Option Tests) (agree : Agree n f g) where
    name_agrees : (scope : Name) (t : TypeName) (r : Option TypeDefTree) → find scope t.class t.name ≡ r
        → ((d : TypeDefTree) → find scope t.class t.name ≡ Some d → rank d < n)
        → name_test find descends v parts f t r ≡ name_test find descends v parts g t r
    name_agrees scope t None is low = refl
    name_agrees scope t (Some d) is low = agree scope t.class t.name d is (low d is)

    mutual
      type_agrees : (scope : Name) (t : TypeTree) → Each (Lower scope n) (alternatives t)
          → type_test find descends v parts f scope t ≡ type_test find descends v parts g scope t
      type_agrees scope (basic_type basic place) low = refl
      type_agrees scope (quote_type name place) low = refl
      type_agrees scope (set_type element place) low = refl
      type_agrees scope (seq_type item place) low = refl
      type_agrees scope (seq1_type item place) low = refl
      type_agrees scope (map_type key value place) low = refl
      type_agrees scope (inmap_type key value place) low = refl
      type_agrees scope (optional_type inner place) low =
          ap (λ (r : Option Tests). if is_nil v then Some no_tests else r) (type_agrees scope inner low)
      type_agrees scope (bracketed_type inner place) low = type_agrees scope inner low
      type_agrees scope (named_type t place) low = name_agrees scope t (find scope t.class t.name) refl low.0
      type_agrees scope (product_type factors place) low = refl
      type_agrees scope (union_type types place) low = ap one_of (choices_agree scope types low)

      choices_agree : (scope : Name) (ts : TypeTrees) → Each (Lower scope n) (alternatives_among ts)
          → choices find descends v parts f scope ts ≡ choices find descends v parts g scope ts
      choices_agree scope no_types low = refl
      choices_agree scope (one_type t ts) low =
          ap (λ (r : Option Tests). with_choice r (choices find descends v parts f scope ts))
          (type_agrees scope t (each_left (Lower scope n) (alternatives t) (alternatives_among ts) low))
          ∙ ap (with_choice (type_test find descends v parts g scope t))
          (choices_agree scope ts (each_right (Lower scope n) (alternatives t) (alternatives_among ts) low))

    body_agrees : (d : TypeDefTree) (body : TypeBody) → Each (Lower d.class n) (body_alternatives body)
        → body_test find descends v parts f d body ≡ body_test find descends v parts g d body
    body_agrees d (with_fields fields) low = refl
    body_agrees d (same_as declared) low = type_agrees d.class declared low

  module _ (ranked : IsRanked find rank) where
    stable : (n m : ℕ) (scope : Name) (class : Option Name) (name : Name) (d : TypeDefTree) → find scope class name ≡ Some d
        → rank d < n → rank d < m → definition_test find descends n v parts d ≡ definition_test find descends m v parts d
    stable zero m scope class name d is below low = absurd (omega arith)
    stable (suc n) zero scope class name d is below low = absurd (omega arith)
    stable (suc n) (suc m) scope class name d is below low =
        ap (with_own find descends d v)
        (body_agrees (rank d) (definition_test find descends n v parts) (definition_test find descends m v parts)
        (λ s c k e found less. stable n m s c k e found (omega arith) (omega arith))
        d d.body (ranked scope class name d is))

    opened_by_body : (scope : Name) (class : Option Name) (name : Name) (d : TypeDefTree) → find scope class name ≡ Some d
        → opened find descends rank v parts d ≡ with_own find descends d v (body_test find descends v parts (opened find descends rank v parts) d d.body)
    opened_by_body scope class name d is =
        ap (with_own find descends d v)
        (body_agrees (rank d) (definition_test find descends (rank d) v parts) (opened find descends rank v parts)
        (λ s c k e found less. stable (rank d) (suc (rank e)) s c k e found less (omega arith))
        d d.body (ranked scope class name d is))

module _ (find : Finder) (descends : Name → Name → Bool) (rank : TypeDefTree → ℕ) (ranked : IsRanked find rank) where
  -- what a definition wants of a value
  pub by_body : (v : ValueTree) (scope : Name) (class : Option Name) (name : Name) (d : TypeDefTree) → find scope class name ≡ Some d
      → tests_by find descends rank d v ≡ with_own find descends d v
      (body_test find descends v (parts_of find descends rank v) (opened find descends rank v (parts_of find descends rank v)) d d.body)
  by_body v = opened_by_body find descends rank v (parts_of find descends rank v) ranked
