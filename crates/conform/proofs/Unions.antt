-- Unions, and the own invariants of types.
use Rattle.std.proofs.Common.{◌≡◌, ℕ, Bool, List, [], ◌∷◌, ◌++◌, map, length, Option, Some, None, option_map, refl, ap, sym, ◌∙◌}
use Rattle.std.specs.Prelude.{Vec}
use Rattle.std.specs.declared.alloc.Global.{Global}
use Rattle.std.specs.Borrow.{Bor}
use Rattle.vdm_kinds.specs.declared.name.Name.{Name}
use Rattle.abstract_syntax.specs.Types.{TypeTree, TypeTrees, one_type}
use Rattle.abstract_syntax.specs.Classes.{TypeDefTree, InvariantTree}
use Rattle.abstract_syntax.specs.Values.{ValueTree}
use Rattle.expr_tree.specs.Alternatives.{Finder}
use Rattle.expr_tree.specs.declared.type_def.TypeDef.{TypeDef}
use Rattle.expr_tree.specs.declared.type_def.TypeInvariant.{TypeInvariant}
use Rattle.expr_tree.specs.TypeDefView.{type_def_view, invariant_view}
use Rattle.type_tree.specs.declared.type_expr.TypeExpr.{TypeExpr}
use Rattle.type_tree.specs.TypeView.{type_view, type_views, type_trees}
use Rattle.type_meaning.specs.Tests.{Tests, no_tests, holds, one_holds, followed_by, both, Choices, choice, with_choice, one_of}
use Rattle.type_meaning.specs.Shapes.{tests_of, choices_of, own_test, with_own}
use Rattle.conform.specs.declared.test.Test as Test
use Rattle.conform.specs.declared.test.Test.{Test}
use Rattle.conform.specs.declared.goal.Next.{Next}
use Rattle.conform.specs.declared.goal.Next.TheVariants.{Fails, Holds, Tests as TestsGoal}
use Rattle.conform.specs.declared.frame.Frame.{Frame}
use Rattle.conform.specs.declared.frame.Frame.TheVariants.{Own, Alternatives}
use Rattle.conform.specs.Frames.{with_found, found_in, through, stands, chosen, frame_then, result_of, body_tests}
use Rattle.conform.proofs.Turns.{Found, both-assoc, both-nothing, nothing-both, through-push, found-push}

module _ (find : Finder) (descends : Name → Name → Bool) (rank : TypeDefTree → ℕ) where
  -- ---- the first type of a union

  first_tried : (before : Tests) (scope : Name) (ts : TypeTrees) (v : ValueTree) (first : Option Tests) (t : TypeTree)
      → first ≡ tests_of find descends rank v scope t
      → chosen find descends rank before scope (one_type t ts) v first
      ≡ both (Some before) (one_of (with_choice first (choices_of find descends rank v scope ts)))
  first_tried before scope ts v None t e = refl
  first_tried before scope ts v (Some no_tests) t e = sym (both-nothing (Some before))
  first_tried before scope ts v (Some (holds d w tests)) t e =
      ap (λ (f : Option Tests). Some (followed_by before (one_holds (with_choice f (choices_of find descends rank v scope ts)) no_tests))) (sym e)
  first_tried before scope ts v (Some (one_holds cs tests)) t e =
      ap (λ (f : Option Tests). Some (followed_by before (one_holds (with_choice f (choices_of find descends rank v scope ts)) no_tests))) (sym e)

  pub a_union : (frames now : List Frame) (was found : List Test) (scope : Name) (t : Bor TypeExpr) (types : Bor (List TypeExpr)) (ts : List TypeExpr) (v : Bor ValueTree) (kept : Vec Test Global)
      → now ≡ frames ++ Alternatives kept scope types v ∷ [] → kept.items ≡ was → found ≡ [] → types.now ≡ t.now ∷ ts
      → stands find descends rank found now (TestsGoal (record { value = v; scope = scope; declared = t }))
      ≡ through find descends rank frames
      (both (Found find descends rank was) (one_of (choices_of find descends rank v.now scope (type_trees (type_views types.now)))))
  a_union frames now was found scope t types ts v kept is same empty those =
      rw (is, empty)
      (through-push find descends rank frames (Alternatives kept scope types v) (both (Some no_tests) (tests_of find descends rank v.now scope (type_view t.now)))
      ∙ ap (through find descends rank frames)
      (ap (chosen find descends rank (found_in find descends rank kept.items) scope (type_trees (type_views types.now)) v.now)
      (nothing-both (tests_of find descends rank v.now scope (type_view t.now)))
      ∙ ap (λ us. chosen find descends rank (found_in find descends rank kept.items) scope (type_trees (type_views us)) v.now (tests_of find descends rank v.now scope (type_view t.now))) those
      ∙ first_tried (found_in find descends rank kept.items) scope (type_trees (type_views ts)) v.now (tests_of find descends rank v.now scope (type_view t.now)) (type_view t.now) refl
      ∙ ap (λ us. both (Found find descends rank kept.items) (one_of (choices_of find descends rank v.now scope (type_trees (type_views us))))) (sym those)
      ∙ ap (λ b. both (Found find descends rank b) (one_of (choices_of find descends rank v.now scope (type_trees (type_views types.now))))) same))

  -- what something has to hold of was found
  pub something_chosen : (frames : List Frame) (before middle found now : List Test) (scope : Name) (types : Bor (List TypeExpr)) (v w : ValueTree)
      → now ≡ middle ++ Test.OneHolds scope types w ∷ [] → middle ≡ before → w ≡ v → (length found ≡ 0 → ⊥)
      → stands find descends rank now frames Holds
      ≡ through find descends rank frames
      (chosen find descends rank (found_in find descends rank before) scope (type_trees (type_views types.now)) v (Found find descends rank found))
  something_chosen frames before middle [] now scope types v w is unchanged same there = absurd (there refl)
  something_chosen frames before middle (Test.Holds d x ∷ tests) now scope types v w is unchanged same there =
      ap (through find descends rank frames)
      (ap (Found find descends rank) (is ∙ ap (λ b. b ++ Test.OneHolds scope types w ∷ []) unchanged) ∙ ap Some (found-push find descends rank before (Test.OneHolds scope types w))
      ∙ ap (λ u. Some (followed_by (found_in find descends rank before) (one_holds (choices_of find descends rank u scope (type_trees (type_views types.now))) no_tests))) same)
  something_chosen frames before middle (Test.OneHolds s ts x ∷ tests) now scope types v w is unchanged same there =
      ap (through find descends rank frames)
      (ap (Found find descends rank) (is ∙ ap (λ b. b ++ Test.OneHolds scope types w ∷ []) unchanged) ∙ ap Some (found-push find descends rank before (Test.OneHolds scope types w))
      ∙ ap (λ u. Some (followed_by (found_in find descends rank before) (one_holds (choices_of find descends rank u scope (type_trees (type_views types.now))) no_tests))) same)

  pub nothing_chosen : (frames : List Frame) (before found : List Test) (scope : Name) (types : List TypeExpr) (v : ValueTree) → length found ≡ 0
      → stands find descends rank before frames Holds
      ≡ through find descends rank frames
      (chosen find descends rank (found_in find descends rank before) scope (type_trees (type_views types)) v (Found find descends rank found))
  nothing_chosen frames before [] scope types v e = refl
  nothing_chosen frames before (test ∷ tests) scope types v e = cc

  -- ---- own invariants

  pub own_found : (frames : List Frame) (was now : List Test) (d : Bor TypeDef) (v w : ValueTree) (i : TypeInvariant)
      → now ≡ was ++ Test.Holds d w ∷ [] → w ≡ v → d.now.invariant ≡ Some i
      → stands find descends rank now frames Holds
      ≡ through find descends rank frames (with_own find descends (type_def_view d.now) v (Found find descends rank was))
  own_found frames was now d v w i is same its =
      ap (through find descends rank frames)
      (ap (Found find descends rank) is ∙ ap Some (found-push find descends rank was (Test.Holds d w))
      ∙ ap (λ u. Some (followed_by (found_in find descends rank was) (holds (type_def_view d.now) u no_tests))) same
      ∙ ap (λ o. Some (followed_by (found_in find descends rank was) (own_test find descends (type_def_view d.now) v (option_map invariant_view o)))) (sym its))

  pub no_own : (frames : List Frame) (was : List Test) (d : TypeDef) (v : ValueTree) → d.invariant ≡ None
      → stands find descends rank was frames Holds
      ≡ through find descends rank frames (with_own find descends (type_def_view d) v (Found find descends rank was))
  no_own frames was d v its =
      ap (through find descends rank frames)
      (sym (both-nothing (Found find descends rank was))
      ∙ ap (λ o. both (Found find descends rank was) (Some (own_test find descends (type_def_view d) v (option_map invariant_view o)))) (sym its))

  -- the body is tested before it
  pub own_behind : (frames now : List Frame) (found : List Test) (d : Bor TypeDef) (v : Bor ValueTree) (body : Option Tests)
      → now ≡ frames ++ Own d v ∷ [] → body ≡ body_tests find descends rank v.now (type_def_view d.now)
      → through find descends rank now (both (Found find descends rank found) body)
      ≡ through find descends rank frames
      (both (Found find descends rank found) (with_own find descends (type_def_view d.now) v.now (body_tests find descends rank v.now (type_def_view d.now))))
  own_behind frames now found d v body is whole =
      ap (λ fs. through find descends rank fs (both (Found find descends rank found) body)) is
      ∙ through-push find descends rank frames (Own d v) (both (Found find descends rank found) body)
      ∙ ap (through find descends rank frames)
      (both-assoc (Found find descends rank found) body (Some (own_test find descends (type_def_view d.now) v.now (type_def_view d.now).invariant))
      ∙ ap (λ b. both (Found find descends rank found) (with_own find descends (type_def_view d.now) v.now b)) whole)
