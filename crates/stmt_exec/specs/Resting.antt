-- Where a thread at rest stands.
use Rattle.std.specs.Prelude.{ℕ, List}
use Rattle.run_journal.specs.declared.answer.Answer.{Answer}
use Rattle.run_journal.specs.declared.question.Question.TheVariants.{Time}
use Rattle.plans.specs.Plans.{ask, fail}
use Rattle.node_meaning.specs.Tasks.{fault}
use Rattle.vdm_meaning.specs.Main.{Standing, asks, over, standing_of, uncaught}
use Rattle.spec_table.specs.Tables.{table_spec}
use Rattle.step_data.specs.Actions.{query_of, answered_of, weight}
use Rattle.step_data.specs.Declarations.{surrounded}
use Rattle.thread_stack.specs.declared.stack.Stack.{Stack}
use Rattle.thread_stack.specs.Standing.{stands}
use Rattle.stmt_exec.specs.declared.rest.Rest.{Rest}
use Rattle.stmt_exec.specs.declared.rest.Rest.TheVariants.{Asks, Fails, Exits, Over, Spent}

-- A thread that is over asks nothing; one that met want of memory asks what nobody answers. What is printed is written over the names.
abbrev pub rest_at : List (List ℕ) → Stack → Rest → List Answer → Standing
rest_at names s (Asks asking) answers =
    standing_of names
    (stands (table_spec s.table.now) s.levels.items s.fuel
    (surrounded s.around (ask (query_of asking) (answered_of (table_spec s.table.now) s.locals.items asking))) answers)
rest_at names s (Fails kind place) answers =
    standing_of names (stands (table_spec s.table.now) s.levels.items s.fuel (fault kind place) answers)
rest_at names s (Exits v place) answers =
    standing_of names (stands (table_spec s.table.now) s.levels.items s.fuel (fail (uncaught v place)) answers)
rest_at names s Over answers = over
rest_at names s Spent answers = asks Time

-- what falls with each answer
abbrev pub rest_weight : Rest → ℕ
rest_weight (Asks asking) = weight asking
rest_weight (Fails kind place) = 1
rest_weight (Exits v place) = 1
rest_weight _ = 0
