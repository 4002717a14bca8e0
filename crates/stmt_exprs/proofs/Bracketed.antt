-- What is refused of the expressions in brackets in patterns, one behind the other.
use Rattle.std.specs.Prelude.{◌≡◌, List, ◌∷◌, ◌++◌, Option, Box}
use Rattle.std.specs.Borrow.{Bor}
use Rattle.std.specs.declared.alloc.Global.{Global}
use Rattle.std.proofs.Common.{ℕ, ◌+◌, ◌<◌, length, get_or, drop, refl, ap, sym, ◌∙◌}
use Rattle.std.proofs.lemmas.List.{drop_more}
use Rattle.vdm_kinds.specs.declared.spec_fault.SpecFault.{SpecFault}
use Rattle.abstract_syntax.specs.Classes.{SpecTree}
use Rattle.abstract_syntax.specs.Expressions.{ExprTree, PatternTree, PatternTrees}
use Rattle.expr_tree.specs.View.{boxed_view}
use Rattle.expr_tree.specs.declared.expr.Expr.{Expr}
use Rattle.class_checks.specs.Expressions.{check, givens, givens_each}
use Rattle.class_checks.specs.Results.{after, first_among}
use Rattle.class_checks.specs.Scopes.{ScopeTree}
use Rattle.spec_checks.specs.Statements.{done}
use Rattle.stmt_scopes.specs.Below.check_scopes.specs.Told.{first_among-++}
use Rattle.stmt_scopes.specs.Below.check_patterns.specs.Givens.{expr_trees, given_in, given_in_each, givens_list, givens-listed, givens_each-listed}

module _ (spec : SpecTree) (scope : ScopeTree) where
  abbrev pub refused_in : List ExprTree → List SpecFault
  refused_in es = (givens_list spec scope es done).refusals

  first_refused : (e : ExprTree) (es : List ExprTree) → refused_in (e ∷ es) ≡ (check spec scope e).refusals ++ refused_in es
  unfolding after
  first_refused e es = refl

  pub given_turn : (xs : List (Bor (Box Expr Global))) (i : ℕ) (x : Bor (Box Expr Global)) (before later whole : Option SpecFault)
      → x ≡ get_or xs i x → i < length xs
      → later ≡ first_among before (check spec scope (boxed_view x.now)).refusals
      → first_among before (refused_in (expr_trees (drop i xs))) ≡ whole
      → first_among later (refused_in (expr_trees (drop (i + 1) xs))) ≡ whole
  given_turn xs i x before later whole is below told so_far =
      let rest : List ExprTree = expr_trees (drop (i + 1) xs) in
      ap (λ (f : Option SpecFault). first_among f (refused_in rest)) told
      ∙ sym (first_among-++ before (check spec scope (boxed_view x.now)).refusals (refused_in rest))
      ∙ ap (first_among before) (sym (first_refused (boxed_view x.now) rest))
      ∙ ap (λ (y : Bor (Box Expr Global)). first_among before (refused_in (boxed_view y.now ∷ rest))) is
      ∙ ap (λ (ys : List (Bor (Box Expr Global))). first_among before (refused_in (expr_trees ys))) (sym (drop_more xs i x below))
      ∙ so_far

  -- ---- all that is found

  found_all : (found items : List (Bor (Box Expr Global))) (es : List ExprTree) → items ≡ found → expr_trees found ≡ es
      → givens_list spec scope es done ≡ givens_list spec scope (expr_trees items) done
  found_all found items es same is =
      ap (λ (gs : List ExprTree). givens_list spec scope gs done) (sym is)
      ∙ ap (λ (xs : List (Bor (Box Expr Global))). givens_list spec scope (expr_trees xs) done) (sym same)

  -- in a pattern
  pub given_in_one : (p : PatternTree) (found items : List (Bor (Box Expr Global))) → items ≡ found → expr_trees found ≡ given_in p
      → givens spec scope p done ≡ givens_list spec scope (expr_trees items) done
  given_in_one p found items same is = givens-listed spec scope p done ∙ found_all found items (given_in p) same is

  -- in several
  pub given_in_all : (ps : PatternTrees) (found items : List (Bor (Box Expr Global))) → items ≡ found → expr_trees found ≡ given_in_each ps
      → givens_each spec scope ps done ≡ givens_list spec scope (expr_trees items) done
  given_in_all ps found items same is = givens_each-listed spec scope ps done ∙ found_all found items (given_in_each ps) same is
