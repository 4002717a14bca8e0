-- Targets, as they are taken out of expressions.
use Rattle.std.specs.Prelude.{◌≡◌, ℕ, suc, List, ◌∷◌, Option, Some, None}
use Rattle.abstract_syntax.specs.Expressions.{ExprTree, ExprTrees, no_exprs, one_expr, apply, select, subsequence, select_of_class, select_part}
use Rattle.abstract_syntax.specs.Statements.{TargetStepTree, TargetTree, variable, variable_of_class}
use Rattle.expr_tree.specs.View.{boxed_view}
use Rattle.vdm_tree.specs.StmtView.{target_step_view}
use Rattle.stmt_reading.specs.Statements.{target_of}
use Rattle.stmt_parts.specs.declared.targets.Root.{Root}
use Rattle.stmt_parts.specs.declared.targets.Root.TheVariants as root
use Rattle.stmt_parts.specs.declared.targets.Outermost.{Outermost}
use Rattle.stmt_parts.specs.declared.targets.Outermost.TheVariants as outermost

-- the only one of arguments
abbrev pub only : ExprTrees → Option ExprTree
only (one_expr argument no_exprs) = Some argument
only _ = None

-- how many postfixes stand at the end
abbrev pub postfixes : ExprTree → ℕ
postfixes (apply head arguments place) = suc (postfixes head)
postfixes (subsequence target first last place) = suc (postfixes target)
postfixes (select target name name_place place) = suc (postfixes target)
postfixes (select_of_class target class class_place name name_place place) = suc (postfixes target)
postfixes (select_part target number place) = suc (postfixes target)
postfixes _ = 0

-- the target that begins in a variable, with steps of which the innermost is the first
abbrev pub begun_in : Root → List TargetStepTree → TargetTree
begun_in (root.Name name place) steps = variable name steps place
begun_in (root.Qualified class name name_place place) steps = variable_of_class class name name_place steps place

-- an expression has one step more than the one before it
pub record IsStep (tree inner : ExprTree) (step : TargetStepTree) : Type 0 where
  pub target : (steps : List TargetStepTree) → target_of tree steps ≡ target_of inner (step ∷ steps)
  pub more : postfixes tree ≡ suc (postfixes inner)

abbrev pub IsOutermost : ExprTree → Outermost → Type 0
IsOutermost tree (outermost.Step inner step) = IsStep tree (boxed_view inner) (target_step_view step)
IsOutermost tree (outermost.Root r) = (steps : List TargetStepTree) → target_of tree steps ≡ Some (begun_in r steps)
IsOutermost tree outermost.Other = (steps : List TargetStepTree) → target_of tree steps ≡ None
