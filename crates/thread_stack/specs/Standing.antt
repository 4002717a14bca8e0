-- Where a thread stands with what waits in it.
use Rattle.std.specs.Prelude.{ℕ, zero, suc, ◌+◌, List, [], ◌∷◌}
use Rattle.std.specs.Borrow.{Bor}
use Rattle.expr_tree.specs.declared.expr.Expr.{Expr as ExprOf}
use Rattle.run_journal.specs.declared.answer.Answer.{Answer}
use Rattle.plans.specs.Plans.{Outcome, onward, run, part, bind, meaning}
use Rattle.abstract_syntax.specs.Classes.{SpecTree}
use Rattle.node_meaning.specs.Envs.{Locals}
use Rattle.node_meaning.specs.Faults.{Fault}
use Rattle.node_meaning.specs.Tasks.{Flow, Query, Code, spent}
use Rattle.stmt_meaning.specs.Questions.{of_thread}
use Rattle.stmt_meaning.specs.TaskPlans.{plan_of}
use Rattle.spec_table.specs.Tables.{table_spec}
use Rattle.eval_data.specs.declared.here.Here.{Here}
use Rattle.step_data.specs.declared.action.Action.{Action}
use Rattle.step_data.specs.declared.level.Level.{Level}
use Rattle.step_data.specs.declared.pending.Pending.{Pending}
use Rattle.step_data.specs.Actions.{level_then, waiting_then, action_code, most, waiting_weight}
use Rattle.step_data.specs.Declarations.{surrounded}
use Rattle.step_data.specs.Parts.{expression_in}
use Rattle.thread_stack.specs.declared.stack.Stack.{Stack}

-- what a plan comes to under a specification
abbrev pub comes_to : SpecTree → Code → List Answer → ℕ → Outcome Flow Query Answer Fault
comes_to spec code answers units = run (meaning (plan_of (of_thread spec)) spent) code answers units

-- what an outcome comes to where these wait for it, the outermost first
abbrev pub unwind : SpecTree → List Level → Outcome Flow Query Answer Fault → Outcome Flow Query Answer Fault
unwind spec [] o = o
unwind spec (level ∷ others) o = onward (unwind spec others o) (λ r. comes_to spec (level_then spec level r))

-- what a thread comes to that does this next
abbrev pub stands : SpecTree → List Level → ℕ → Code → List Answer → Outcome Flow Query Answer Fault
stands spec levels fuel code answers = unwind spec levels (comes_to spec code answers fuel)

-- what one comes to that acts so next
abbrev pub stands_with : Stack → Action → List Answer → Outcome Flow Query Answer Fault
stands_with s action answers =
    stands (table_spec s.table.now) s.levels.items s.fuel (surrounded s.around (action_code (table_spec s.table.now) s.locals.items action)) answers

-- a part with what is done behind it, and what is done behind that
abbrev pub both : SpecTree → Locals → Here → Bor ExprOf → Pending → Pending → Code
both spec locals here tree inner outer =
    bind (part (expression_in here tree locals) (waiting_then spec inner.waiting)) (waiting_then spec outer.waiting)

-- ---- what falls

abbrev pub waiting_load : List Level → ℕ
waiting_load [] = 0
waiting_load (level ∷ others) = waiting_weight level.waiting.waiting + waiting_load others

-- A unit weighs more than the two levels that the test of a value takes for it.
abbrev pub fuel_load : ℕ → ℕ
fuel_load zero = 0
fuel_load (suc fuel) = (10 + most) + (10 + most) + (10 + most) + fuel_load fuel

-- an action with what waits for it
abbrev pub load : List Level → ℕ → ℕ → ℕ
load levels fuel weight = fuel_load fuel + waiting_load levels + weight
