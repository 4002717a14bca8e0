-- What stands in brackets behind what is applied.
use Rattle.std.proofs.Common.{◌≡◌, ◌≢◌, ◌≤◌, ◌<◌, suc, List, [], ◌∷◌, length, get_or, refl, ap, arith}
use Rattle.vdm_kinds.specs.declared.operator.Operator.TheVariants.{LookUp}
use Rattle.vdm_kinds.specs.declared.place.Place.{Place}
use Rattle.vdm_kinds.specs.declared.run_fault.RunFault.TheVariants.{TypeFault}
use Rattle.abstract_syntax.specs.Expressions.{ExprTree, no_exprs, one_expr}
use Rattle.abstract_syntax.specs.Values.{ValueTree}
use Rattle.expr_tree.specs.View.{view_of, views_of, expr_trees}
use Rattle.expr_tree.specs.declared.expr.Expr.{Expr}
use Rattle.node_meaning.specs.Envs.{Locals, Here}
use Rattle.node_meaning.specs.Expressions.{arguments_of, looked_up, looked_up_in}
use Rattle.node_meaning.specs.Strict.{strict, two_operands}
use Rattle.node_meaning.specs.Tasks.{fault}

pub counted : (arguments : List Expr) → length arguments ≡ arguments_of (expr_trees (views_of arguments))
counted [] = refl
counted (first ∷ others) = ap suc (counted others)

module _ (here : Here) (head : ExprTree) (place : Place) (locals : Locals) where
  -- in one place alone something is looked up
  pub looks_up : (arguments : List Expr) → length arguments ≡ 1 →
      strict here (two_operands LookUp) place (one_expr head (expr_trees (views_of arguments))) locals ≡
      looked_up here head (expr_trees (views_of arguments)) place locals
  looks_up [] one = absurd (omega arith)
  looks_up (argument ∷ []) one = refl
  looks_up (argument ∷ (next ∷ others)) one = absurd (omega arith)

  pub looks_nothing_up : (arguments : List Expr) → length arguments ≢ 1 →
      fault TypeFault place ≡ looked_up here head (expr_trees (views_of arguments)) place locals
  looks_nothing_up [] other = refl
  looks_nothing_up (argument ∷ []) other = absurd (other refl)
  looks_nothing_up (argument ∷ (next ∷ others)) other = refl

module _ (here : Here) (place : Place) (v : ValueTree) (locals : Locals) where
  -- ... in a value that is there
  pub looks_up_in : (arguments : List Expr) (argument : Expr) → 1 ≤ length arguments → length arguments < 2 → argument ≡ get_or arguments 0 argument →
      looked_up_in here (one_expr (view_of argument) no_exprs) place v locals ≡ looked_up_in here (expr_trees (views_of arguments)) place v locals
  looks_up_in [] argument some below is = absurd (omega (arith, some))
  looks_up_in (first ∷ []) argument some below is = ap (λ (e : Expr). looked_up_in here (one_expr (view_of e) no_exprs) place v locals) is
  looks_up_in (first ∷ (next ∷ others)) argument some below is = absurd (omega (arith, below))

  pub looks_nothing_up_in : (arguments : List Expr) → 2 ≤ length arguments →
      fault TypeFault place ≡ looked_up_in here (expr_trees (views_of arguments)) place v locals
  looks_nothing_up_in [] more = absurd (omega (arith, more))
  looks_nothing_up_in (argument ∷ []) more = absurd (omega (arith, more))
  looks_nothing_up_in (argument ∷ (next ∷ others)) more = refl
