-- What the machine keeps of a thread, in the words of the meaning.
use Rattle.std.specs.Prelude.{Bool, true, false, List, [], map}
use Rattle.std.specs.Borrow.{Bor}
use Rattle.abstract_syntax.specs.Statements.{StmtTrees, StmtBranches, HandlerTrees}
use Rattle.expr_tree.specs.View.{view_of, boxed_view}
use Rattle.expr_tree.specs.declared.expr.Expr.{Expr as ExprOf}
use Rattle.vdm_tree.specs.StmtView.{stmt_view, stmt_trees, stmt_views, boxed_stmt, stmt_branch_view, stmt_branch_trees, handler_view, handler_trees}
use Rattle.vdm_tree.specs.declared.stmt.Handler.{Handler}
use Rattle.vdm_tree.specs.declared.stmt.Stmt.{Stmt}
use Rattle.vdm_tree.specs.declared.stmt.StmtBranch.{StmtBranch}
use Rattle.node_meaning.specs.Envs.{Here as MeantHere, Locals, at}
use Rattle.node_meaning.specs.Tasks.{Task as MeantTask, expr_in, call_in, stmt_in, Counting as MeantCounting, Round as MeantRound, while_true, counts, handles}
use Rattle.eval_data.specs.Parts.{here_of}
use Rattle.eval_data.specs.declared.here.Here.{Here}
use Rattle.step_data.specs.declared.round.Counting.{Counting}
use Rattle.step_data.specs.declared.round.Round.{Round}
use Rattle.step_data.specs.declared.round.Round.TheVariants.{While, Counts, Handles}
use Rattle.step_data.specs.declared.task.Task.{Task}
use Rattle.step_data.specs.declared.task.Task.TheVariants.{Expr, Call as CallTask, Stmt as StmtTask}

abbrev pub expression_in : Here → Bor ExprOf → Locals → MeantTask
expression_in here tree locals = expr_in (at (here_of here) locals) (view_of tree.now)

abbrev pub task_of : Task → Locals → MeantTask
task_of (Expr here tree) locals = expression_in here tree locals
task_of (CallTask here tree) locals = call_in (at (here_of here) locals) (view_of tree.now)
task_of (StmtTask here tree) locals = stmt_in (at (here_of here) locals) [] (stmt_view tree.now)

abbrev pub is_statement : Task → Bool
is_statement (StmtTask here tree) = true
is_statement _ = false

abbrev pub counting_of : Counting → MeantCounting
counting_of c = record { name = c.name; count = c.count; at = c.at; step = c.step; last = c.last; body = boxed_stmt c.body.now }

-- the handlers of a `tixe`
abbrev pub handlers_of : List Handler → HandlerTrees
handlers_of handlers = handler_trees (map handler_view handlers)

abbrev pub round_of : Round → MeantRound
round_of (While condition body place) = while_true (boxed_view condition.now) (boxed_stmt body.now) place
round_of (Counts counting) = counts (counting_of counting)
round_of (Handles all count body place) = handles (handlers_of all.now) count (boxed_stmt body.now) place

-- the node with which a round begins
abbrev pub first_task : MeantHere → Locals → MeantRound → MeantTask
first_task here locals (while_true condition body place) = expr_in (at here locals) condition
first_task here locals (counts counting) = stmt_in (at here locals) [] counting.body
first_task here locals (handles all count body place) = stmt_in (at here locals) [] body

-- the statements of a block that are left
abbrev pub statements_of : List Stmt → StmtTrees
statements_of statements = stmt_trees (stmt_views statements)

-- the branches of a statement that are left
abbrev pub branches_left : List StmtBranch → StmtBranches
branches_left branches = stmt_branch_trees (map stmt_branch_view branches)
