-- Each step of tests that are being made stands where the step before it stood.
use Rattle.std.proofs.Common.{◌≡◌, ℕ, Bool, true, false, List, [], ◌∷◌, ◌++◌, reverse, Option, Some, None, Result, IfOk, Vec, Global, refl, ap, sym, subst, ◌∙◌}
use mathlib.Core.List.{reverse-cons}
use Rattle.std.specs.Borrow.{Bor}
use Rattle.vdm_kinds.specs.declared.halt.OutOfMemory.{OutOfMemory}
use Rattle.vdm_kinds.specs.declared.name.Name.{Name}
use Rattle.abstract_syntax.specs.Classes.{TypeDefTree}
use Rattle.abstract_syntax.specs.Values.{ValueTree}
use Rattle.expr_tree.specs.Alternatives.{Finder}
use Rattle.expr_tree.specs.declared.type_def.TypeDef.{TypeDef}
use Rattle.expr_tree.specs.TypeDefView.{type_def_view}
use Rattle.type_tree.specs.declared.type_expr.TypeExpr.{TypeExpr}
use Rattle.type_tree.specs.TypeView.{type_view, type_views, type_trees}
use Rattle.type_meaning.specs.Tests.{Tests as Wanted, no_tests, Decision, asks, tested, tried, with_choice}
use Rattle.type_meaning.specs.Shapes.{tests_of, choices_of}
use Rattle.conform.specs.declared.test.Test as Test
use Rattle.conform.specs.declared.test.Test.{Test}
use Rattle.conform.specs.declared.testing.Waiting.{Waiting}
use Rattle.conform.specs.declared.testing.Waiting.TheVariants.{Tests, Others}
use Rattle.conform.specs.Frames.{with_found, found_in}
use Rattle.conform.specs.Testings.{left_in, when_met, when_unmet, met_from, unmet_from, met_behind, unmet_behind, stands_at, follows, Stepped}

same_some : {A : Type 0} (x y : A) → Some x ≡ Some y → x ≡ y
same_some x y same = cc

module _ (find : Finder) (descends : Name → Name → Bool) (rank : TypeDefTree → ℕ) where
  -- ---- lists whose first is the last

  left-push : (tests : List Test) (test : Test) (wanted : Wanted)
      → left_in find descends rank (tests ++ test ∷ []) wanted ≡ with_found find descends rank test (left_in find descends rank tests wanted)
  left-push [] test wanted = refl
  left-push (first ∷ tests) test wanted = left-push tests test (with_found find descends rank first wanted)

  left-reverse : (tests : List Test) → left_in find descends rank (reverse tests) no_tests ≡ found_in find descends rank tests
  left-reverse [] = refl
  left-reverse (test ∷ tests) =
      ap (λ ts. left_in find descends rank ts no_tests) (reverse-cons test tests)
      ∙ left-push (reverse tests) test no_tests
      ∙ ap (with_found find descends rank test) (left-reverse tests)

  met-push : (ws : List Waiting) (w : Waiting) (m u : Decision Bool)
      → met_from find descends rank (ws ++ w ∷ []) m u ≡ when_met find descends rank w (met_from find descends rank ws m u) (unmet_from find descends rank ws m u)
  met-push [] w m u = refl
  met-push (first ∷ ws) w m u = met-push ws w (when_met find descends rank first m u) (when_unmet find descends rank first m u)

  unmet-push : (ws : List Waiting) (w : Waiting) (m u : Decision Bool)
      → unmet_from find descends rank (ws ++ w ∷ []) m u ≡ when_unmet find descends rank w (met_from find descends rank ws m u) (unmet_from find descends rank ws m u)
  unmet-push [] w m u = refl
  unmet-push (first ∷ ws) w m u = unmet-push ws w (when_met find descends rank first m u) (when_unmet find descends rank first m u)

  -- what waits last follows
  pub met_next : (ws now : List Waiting) (w : Waiting) → now ≡ ws ++ w ∷ []
      → met_behind find descends rank now ≡ when_met find descends rank w (met_behind find descends rank ws) (unmet_behind find descends rank ws)
  met_next ws now w is = ap (met_behind find descends rank) is ∙ met-push ws w _ _

  pub unmet_next : (ws now : List Waiting) (w : Waiting) → now ≡ ws ++ w ∷ []
      → unmet_behind find descends rank now ≡ when_unmet find descends rank w (met_behind find descends rank ws) (unmet_behind find descends rank ws)
  unmet_next ws now w is = ap (unmet_behind find descends rank) is ∙ unmet-push ws w _ _

  -- ---- steps

  pub followed : (ws now : List Waiting) (turned : Vec Test Global) (tests : List Test) → now ≡ ws ++ Tests turned ∷ [] → turned.items ≡ reverse tests
      → met_behind find descends rank now
      ≡ tested (found_in find descends rank tests) (met_behind find descends rank ws) (unmet_behind find descends rank ws)
  followed ws now turned tests is order =
      met_next ws now (Tests turned) is
      ∙ ap (λ wanted. tested wanted (met_behind find descends rank ws) (unmet_behind find descends rank ws))
      (ap (λ ts. left_in find descends rank ts no_tests) order ∙ left-reverse tests)

  pub first_fits : (ws now : List Waiting) (scope : Name) (t : TypeExpr) (others : Bor (List TypeExpr)) (types : List TypeExpr) (v : ValueTree)
      (found : Wanted) (stood : Decision Bool)
      → now ≡ ws ++ Others scope others v ∷ [] → types ≡ t ∷ others.now → Some found ≡ tests_of find descends rank v scope (type_view t)
      → stood ≡ tested found (met_behind find descends rank now) (unmet_behind find descends rank now)
      → stood ≡ tried (choices_of find descends rank v scope (type_trees (type_views types))) (met_behind find descends rank ws) (unmet_behind find descends rank ws)
  first_fits ws now scope t others types v found stood is those fits at =
      at ∙ ap (λ m. tested found m (unmet_behind find descends rank now)) (met_next ws now (Others scope others v) is)
      ∙ ap (tested found (met_behind find descends rank ws)) (unmet_next ws now (Others scope others v) is)
      ∙ ap (λ (r : Option Wanted). tried (with_choice r (choices_of find descends rank v scope (type_trees (type_views others.now)))) (met_behind find descends rank ws) (unmet_behind find descends rank ws)) fits
      ∙ ap (λ ts. tried (choices_of find descends rank v scope (type_trees (type_views ts))) (met_behind find descends rank ws) (unmet_behind find descends rank ws)) (sym those)

  pub first_misses : (ws now : List Waiting) (scope : Name) (t : TypeExpr) (others : Bor (List TypeExpr)) (types : List TypeExpr) (v : ValueTree)
      → now ≡ ws ++ Others scope others v ∷ [] → types ≡ t ∷ others.now → None ≡ tests_of find descends rank v scope (type_view t)
      → unmet_behind find descends rank now
      ≡ tried (choices_of find descends rank v scope (type_trees (type_views types))) (met_behind find descends rank ws) (unmet_behind find descends rank ws)
  first_misses ws now scope t others types v is those misses =
      unmet_next ws now (Others scope others v) is
      ∙ ap (λ (r : Option Wanted). tried (with_choice r (choices_of find descends rank v scope (type_trees (type_views others.now)))) (met_behind find descends rank ws) (unmet_behind find descends rank ws)) misses
      ∙ ap (λ ts. tried (choices_of find descends rank v scope (type_trees (type_views ts))) (met_behind find descends rank ws) (unmet_behind find descends rank ws)) (sym those)

  pub an_invariant : (ws now : List Waiting) (left : Vec Test Global) (tests : List Test) (d : Bor TypeDef) (v : ValueTree)
      → now ≡ ws ++ Tests left ∷ [] → tests ≡ left.items ++ Test.Holds d v ∷ []
      → asks (type_def_view d.now) v (met_behind find descends rank now) (unmet_behind find descends rank now)
      ≡ tested (left_in find descends rank tests no_tests) (met_behind find descends rank ws) (unmet_behind find descends rank ws)
  an_invariant ws now left tests d v is those =
      ap (λ m. asks (type_def_view d.now) v m (unmet_behind find descends rank now)) (met_next ws now (Tests left) is)
      ∙ ap (asks (type_def_view d.now) v (tested (left_in find descends rank left.items no_tests) (met_behind find descends rank ws) (unmet_behind find descends rank ws))) (unmet_next ws now (Tests left) is)
      ∙ ap (λ wanted. tested wanted (met_behind find descends rank ws) (unmet_behind find descends rank ws))
      (sym (ap (λ ts. left_in find descends rank ts no_tests) those ∙ left-push left.items (Test.Holds d v) no_tests))

  pub a_union_left : (ws now : List Waiting) (left : Vec Test Global) (tests : List Test) (scope : Name) (types : Bor (List TypeExpr)) (v : ValueTree)
      → now ≡ ws ++ Tests left ∷ [] → tests ≡ left.items ++ Test.OneHolds scope types v ∷ []
      → tried (choices_of find descends rank v scope (type_trees (type_views types.now))) (met_behind find descends rank now) (unmet_behind find descends rank now)
      ≡ tested (left_in find descends rank tests no_tests) (met_behind find descends rank ws) (unmet_behind find descends rank ws)
  a_union_left ws now left tests scope types v is those =
      ap (λ m. tried (choices_of find descends rank v scope (type_trees (type_views types.now))) m (unmet_behind find descends rank now)) (met_next ws now (Tests left) is)
      ∙ ap (tried (choices_of find descends rank v scope (type_trees (type_views types.now))) (tested (left_in find descends rank left.items no_tests) (met_behind find descends rank ws) (unmet_behind find descends rank ws))) (unmet_next ws now (Tests left) is)
      ∙ ap (λ wanted. tested wanted (met_behind find descends rank ws) (unmet_behind find descends rank ws))
      (sym (ap (λ ts. left_in find descends rank ts no_tests) those ∙ left-push left.items (Test.OneHolds scope types v) no_tests))

  pub stepped : (r : Result (Option (Bor TypeDef × ValueTree)) OutOfMemory) (ws : List Waiting) (holds : Bool) (x y : Decision Bool) → x ≡ y
      → IfOk r (λ s. Stepped find descends rank s x ws holds) → IfOk r (λ s. Stepped find descends rank s y ws holds)
  stepped r ws holds x y e h = subst (λ d. IfOk r (λ s. Stepped find descends rank s d ws holds)) e h

  -- what waits last is what follows
  pub follows_last : (ws left : List Waiting) (w : Waiting) (holds : Bool) → ws ≡ left ++ w ∷ []
      → follows find descends rank w left holds ≡ stands_at find descends rank ws holds
  follows_last ws left w true is = sym (met_next left ws w is)
  follows_last ws left w false is = sym (unmet_next left ws w is)

  pub asked : (step : Option (Bor TypeDef × ValueTree)) (d : Bor TypeDef) (v : ValueTree) (ws : List Waiting) (holds : Bool) (x y : Decision Bool)
      → step ≡ Some (d, v) → Stepped find descends rank step x ws holds → x ≡ y
      → asks (type_def_view d.now) v (met_behind find descends rank ws) (unmet_behind find descends rank ws) ≡ y
  asked (Some test) d v ws holds x y is h e =
      ap (λ (t : Bor TypeDef × ValueTree). asks (type_def_view t.0.now) t.1 (met_behind find descends rank ws) (unmet_behind find descends rank ws)) (sym (same_some test (d, v) is))
      ∙ h ∙ e
  asked None d v ws holds x y is h e = cc

  pub went_on : (step : Option (Bor TypeDef × ValueTree)) (ws : List Waiting) (holds : Bool) (x y : Decision Bool)
      → step ≡ None → Stepped find descends rank step x ws holds → x ≡ y → stands_at find descends rank ws holds ≡ y
  went_on None ws holds x y is h e = h ∙ e
  went_on (Some test) ws holds x y is h e = cc
