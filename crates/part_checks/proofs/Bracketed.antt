-- What is refused of the expressions in brackets in a pattern, one behind the other.
use Rattle.std.specs.Prelude.{◌≡◌, List, ◌∷◌, ◌++◌, Option, Box}
use Rattle.std.specs.Borrow.{Bor}
use Rattle.std.specs.declared.alloc.Global.{Global}
use Rattle.std.proofs.Common.{ℕ, ◌+◌, ◌<◌, ◌≤◌, length, get_or, drop, refl, ap, sym, ◌∙◌}
use Rattle.std.proofs.lemmas.List.{drop_more, drop_all}
use Rattle.vdm_kinds.specs.declared.spec_fault.SpecFault.{SpecFault}
use Rattle.abstract_syntax.specs.Classes.{SpecTree}
use Rattle.abstract_syntax.specs.Expressions.{ExprTree, PatternTree}
use Rattle.expr_tree.specs.View.{boxed_view}
use Rattle.expr_tree.specs.declared.expr.Expr.{Expr}
use Rattle.form_meaning.specs.Forms.{no_form}
use Rattle.class_checks.specs.Expressions.{check, givens}
use Rattle.class_checks.specs.Results.{Checked, after, first_among, gives}
use Rattle.class_checks.specs.Scopes.{ScopeTree}
use Rattle.definition_scopes.specs.Below.check_scopes.specs.Told.{first_among-++}
use Rattle.type_check.specs.Below.check_patterns.specs.Givens.{expr_trees, given_in, givens_list, givens-listed}

module _ (spec : SpecTree) (scope : ScopeTree) where
  abbrev pub refused_in : List ExprTree → List SpecFault
  refused_in es = (givens_list spec scope es (gives no_form)).refusals

  first_refused : (e : ExprTree) (es : List ExprTree) → refused_in (e ∷ es) ≡ (check spec scope e).refusals ++ refused_in es
  unfolding after
  first_refused e es = refl

  pub given_turn : (xs : List (Bor (Box Expr Global))) (i : ℕ) (x : Bor (Box Expr Global)) (before later whole : Option SpecFault)
      → x ≡ get_or xs i x → i < length xs
      → later ≡ first_among before (check spec scope (boxed_view x.now)).refusals
      → first_among before (refused_in (expr_trees (drop i xs))) ≡ whole
      → first_among later (refused_in (expr_trees (drop (i + 1) xs))) ≡ whole
  given_turn xs i x before later whole is below told so_far =
      let rest : List ExprTree = expr_trees (drop (i + 1) xs) in
      ap (λ (f : Option SpecFault). first_among f (refused_in rest)) told
      ∙ sym (first_among-++ before (check spec scope (boxed_view x.now)).refusals (refused_in rest))
      ∙ ap (first_among before) (sym (first_refused (boxed_view x.now) rest))
      ∙ ap (λ (y : Bor (Box Expr Global)). first_among before (refused_in (boxed_view y.now ∷ rest))) is
      ∙ ap (λ (ys : List (Bor (Box Expr Global))). first_among before (refused_in (expr_trees ys))) (sym (drop_more xs i x below))
      ∙ so_far

  pub given_past : (xs : List (Bor (Box Expr Global))) (i : ℕ) (now whole : Option SpecFault) → length xs ≤ i
      → first_among now (refused_in (expr_trees (drop i xs))) ≡ whole → now ≡ whole
  given_past xs i now whole past so_far =
      ap (λ (ys : List (Bor (Box Expr Global))). first_among now (refused_in (expr_trees ys))) (sym (drop_all i xs past)) ∙ so_far

  -- all that is found in a pattern
  pub given_in_all : (p : PatternTree) (found items : List (Bor (Box Expr Global))) → items ≡ found → expr_trees found ≡ given_in p
      → refused_in (expr_trees items) ≡ (givens spec scope p (gives no_form)).refusals
  given_in_all p found items same is =
      ap (λ (xs : List (Bor (Box Expr Global))). refused_in (expr_trees xs)) same
      ∙ ap refused_in is
      ∙ ap (λ (checked : Checked). checked.refusals) (sym (givens-listed spec scope p (gives no_form)))
