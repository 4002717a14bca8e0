-- The expressions in brackets before a search.
use Rattle.std.proofs.Common.{◌≡◌, List, [], ◌∷◌, drop, slice_get, Some, None, Box, Bor, Global, refl, ap, sym, ◌∙◌}
use Rattle.std.specs.List.{flat_map}
use Rattle.vdm_kinds.specs.declared.place.Place.{Place}
use Rattle.abstract_syntax.specs.Classes.{SpecTree}
use Rattle.abstract_syntax.specs.Expressions.{ExprTree, one_expr, PatternTree}
use Rattle.abstract_syntax.specs.Values.{ValueTree}
use Rattle.expr_tree.specs.declared.expr.Expr.{Expr}
use Rattle.expr_tree.specs.View.{boxed_view}
use Rattle.pattern_meaning.specs.Brackets.{given_in}
use Rattle.node_meaning.specs.Choosing.{Chooser, behind_sets, search_with}
use Rattle.node_meaning.specs.Envs.{Here, Locals}
use Rattle.node_meaning.specs.Matching.{exprs_of}
use Rattle.node_meaning.specs.Strict.{collected}
use Rattle.eval_data.specs.Parts.{boxed_list}

nothing_found : (found : List (Bor (Box Expr Global))) → slice_get found 0 ≡ None → found ≡ []
nothing_found [] none = refl
nothing_found (e ∷ found) none = cc

first_and_others : (found : List (Bor (Box Expr Global))) (first : Bor (Box Expr Global)) → slice_get found 0 ≡ Some first
    → exprs_of (boxed_list found) ≡ one_expr (boxed_view first.now) (exprs_of (drop 1 (boxed_list found)))
first_and_others [] first is = cc
first_and_others (e ∷ found) first is =
    ap (λ (x : Bor (Box Expr Global)). one_expr (boxed_view x.now) (exprs_of (boxed_list found))) (let same : e ≡ first = cc in same)

module _ (spec : SpecTree) (here : Here) (place : Place) (patterns : List PatternTree) (chooser : Chooser) (lists : List (List ValueTree)) (locals : Locals) where
  -- with none the search comes at once
  pub search_at_once : (found : List (Bor (Box Expr Global))) (given : List ValueTree) → slice_get found 0 ≡ None
      → boxed_list found ≡ flat_map given_in patterns → given ≡ []
      → search_with spec here place patterns chooser lists given locals ≡ behind_sets spec here place patterns chooser lists locals
  search_at_once found given none all empty =
      ap (λ (vs : List ValueTree). search_with spec here place patterns chooser lists vs locals) empty
      ∙ ap (λ (es : List ExprTree). collected here place (exprs_of es) [] (search_with spec here place patterns chooser lists) locals)
      (ap boxed_list (sym (nothing_found found none)) ∙ all)

  -- else the first is a part
  pub brackets_first : (found : List (Bor (Box Expr Global))) (first : Bor (Box Expr Global)) (done : List ValueTree) → slice_get found 0 ≡ Some first
      → boxed_list found ≡ flat_map given_in patterns → done ≡ []
      → collected here place (one_expr (boxed_view first.now) (exprs_of (drop 1 (boxed_list found)))) done (search_with spec here place patterns chooser lists) locals
      ≡ behind_sets spec here place patterns chooser lists locals
  brackets_first found first done some all empty =
      ap (λ (vs : List ValueTree). collected here place (one_expr (boxed_view first.now) (exprs_of (drop 1 (boxed_list found)))) vs
      (search_with spec here place patterns chooser lists) locals) empty
      ∙ ap (λ es. collected here place es [] (search_with spec here place patterns chooser lists) locals) (sym (first_and_others found first some))
      ∙ ap (λ (es : List ExprTree). collected here place (exprs_of es) [] (search_with spec here place patterns chooser lists) locals) all
