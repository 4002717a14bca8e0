-- The expressions of an assignment that are still to come.
use Rattle.std.specs.Prelude.{List, [], ◌∷◌, ◌++◌, map, Option, Some, None, Box}
use Rattle.std.specs.Borrow.{Bor}
use Rattle.std.specs.declared.alloc.Global.{Global}
use Rattle.abstract_syntax.specs.Expressions.{ExprTree}
use Rattle.expr_tree.specs.View.{boxed_view}
use Rattle.expr_tree.specs.declared.expr.Expr.{Expr}
use Rattle.vdm_tree.specs.StmtView.{target_step_view}
use Rattle.vdm_tree.specs.declared.target.TargetStep.{TargetStep}
use Rattle.stmt_meaning.specs.Targets.{indices}
use Rattle.step_data.specs.Goals.{value_left}
use Rattle.goal_steps.specs.declared.parts.NextPart.{NextPart}

-- an index, and those of the steps behind it
abbrev pub indices_from : Option (Bor (Box Expr Global) × Bor (List TargetStep)) → List ExprTree
indices_from None = []
indices_from (Some (index, left)) = boxed_view index.now ∷ indices (map target_step_view left.now)

-- the expression that comes next, and those behind it
abbrev pub part_exprs : NextPart → List ExprTree
part_exprs p = boxed_view p.tree.now ∷ (indices (map target_step_view p.left.now) ++ value_left p.value)

abbrev pub exprs_from : Option NextPart → List ExprTree
exprs_from None = []
exprs_from (Some p) = part_exprs p
