-- The expressions in brackets in several patterns.
use Rattle.std.proofs.Common.{◌≡◌, List, [], ◌∷◌, ◌++◌, drop, refl, ap, sym, ◌∙◌}
use Rattle.std.specs.List.{flat_map}
use Rattle.vdm_kinds.specs.declared.place.Place.{Place}
use Rattle.abstract_syntax.specs.Expressions.{ExprTree, ExprTrees, one_expr, PatternTree}
use Rattle.abstract_syntax.specs.Values.{ValueTree}
use Rattle.expr_tree.specs.View.{pattern_trees}
use Rattle.pattern_meaning.specs.Brackets.{given_in, given_in_each}
use Rattle.node_meaning.specs.Envs.{Here, Locals}
use Rattle.node_meaning.specs.Matching.{exprs_of}
use Rattle.node_meaning.specs.Strict.{collected, with_others}
use Rattle.node_meaning.specs.Tasks.{Code, evaluated}

-- those of patterns one after another
pub each_given : (ps : List PatternTree) → given_in_each (pattern_trees ps) ≡ flat_map given_in ps
each_given [] = refl
each_given (p ∷ ps) = ap (λ (es : List ExprTree). given_in p ++ es) (each_given ps)

module _ (here : Here) (place : Place) (further : List ValueTree → Locals → Code) (locals : Locals) where
  -- the first of several parts, before any value came
  pub first_begun : (at_here : Here) (at_place : Place) (done : List ValueTree) (tree : ExprTree) (trees : ExprTrees) → at_here ≡ here → at_place ≡ place
      → done ≡ [] → collected at_here at_place (one_expr tree trees) done further locals
      ≡ evaluated here locals tree place (with_others here place trees [] further)
  first_begun at_here at_place done tree trees is_here is_place none =
      ap (λ (h : Here). collected h at_place (one_expr tree trees) done further locals) is_here
      ∙ ap (λ (p : Place). collected here p (one_expr tree trees) done further locals) is_place
      ∙ ap (λ (vs : List ValueTree). collected here place (one_expr tree trees) vs further locals) none

  -- ... where they are the expressions in brackets
  pub brackets_begun : (found all : List ExprTree) (first : ExprTree) → found ≡ first ∷ drop 1 found → found ≡ all
      → evaluated here locals first place (with_others here place (exprs_of (drop 1 found)) [] further)
      ≡ collected here place (exprs_of all) [] further locals
  brackets_begun found all first is are =
      ap (λ (es : List ExprTree). collected here place (exprs_of es) [] further locals) (sym is ∙ are)
