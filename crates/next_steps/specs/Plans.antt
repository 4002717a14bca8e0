-- What the machine's tasks do.
use Rattle.abstract_syntax.specs.Classes.{SpecTree}
use Rattle.expr_tree.specs.View.{view_of}
use Rattle.vdm_tree.specs.StmtView.{stmt_view}
use Rattle.node_meaning.specs.Envs.{Locals}
use Rattle.node_meaning.specs.Expressions.{expr_plan, bare_call}
use Rattle.node_meaning.specs.Tasks.{Declared, Code}
use Rattle.stmt_meaning.specs.Questions.{of_thread}
use Rattle.stmt_meaning.specs.Statements.{stmt_plan}
use Rattle.eval_data.specs.Parts.{here_of}
use Rattle.step_data.specs.declared.task.Task.{Task}
use Rattle.step_data.specs.declared.task.Task.TheVariants.{Expr, Call, Stmt}

-- among these local variables
abbrev pub task_plan : SpecTree → Declared → Task → Locals → Code
task_plan spec declared (Expr here tree) locals = expr_plan (of_thread spec) (here_of here) locals (view_of tree.now)
task_plan spec declared (Call here tree) locals = bare_call (of_thread spec) (here_of here) locals (view_of tree.now)
task_plan spec declared (Stmt here tree) locals = stmt_plan spec (here_of here) declared locals (stmt_view tree.now)
