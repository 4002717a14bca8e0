use Rattle.std.proofs.Common.{refl}
use Rattle.spec_table.specs.Tables.{table_spec}
use Rattle.step_data.specs.declared.around.Around.{Around}
use Rattle.step_data.specs.declared.level.Level.{Level}
use Rattle.step_data.specs.declared.pending.Pending.{Pending}
use Rattle.step_data.specs.declared.waiting.Waiting.TheVariants.{Round as BehindFirst}
use Rattle.step_data.specs.Declarations.{declared_of}
use Rattle.step_data.specs.Parts.{task_of}
use Rattle.thread_stack.proofs.Loads.{entered-low, entered-falls}
use Rattle.thread_stack.proofs.Standings.{rounded, round_fails}
use Rattle.thread_stack.proofs.stack.Stack.round.Goals as goal

pub returns-in-Some-clause-same : goal.returns-in-Some-clause-same
returns-in-Some-clause-same c =
    let outer : Around = record { nest = c.args.here.nest; declared = c.in_ok-declared-in-Some.declared } in
    let behind : Pending = record { waiting = BehindFirst c.args.here c.args.round } in
    let level : Level = record { around = outer; waiting = behind } in
    rounded (table_spec c.args.self.now.table.now) c.args.self.now.levels.items c.push.new.self.items c.planned.new.around c.args.self.now.around c.planned.new.locals.items
    c.args.self.now.fuel c.in-Some.left c.args.here c.args.self.now.locals.items c.args.round level (task_of c.task-task.result c.args.self.now.locals.items) c.planned.result
    c.in-Some.ensures c.in_ok-push-in-Some.ensures.items refl refl c.in_ok-declared-in-Some.ensures
    (c.task-task.ensures c.args.self.now.locals.items) c.planned.ensures.same

pub returns-clause-same : goal.returns-clause-same
returns-clause-same c = λ answers.
    round_fails (table_spec c.args.self.now.table.now) c.args.self.now.levels.items c.args.self.now.around c.args.self.now.fuel c.args.here c.args.self.now.locals.items c.args.round
    (task_of c.task-task.result c.args.self.now.locals.items) _ answers c.in-None.ensures (c.task-task.ensures c.args.self.now.locals.items)
    (c.unentered.ensures.same (table_spec c.args.self.now.table.now) (declared_of c.args.self.now.around.declared) c.args.self.now.locals.items)

pub returns-in-Some-clause-low : goal.returns-in-Some-clause-low
returns-in-Some-clause-low c =
    let outer : Around = record { nest = c.args.here.nest; declared = c.in_ok-declared-in-Some.declared } in
    let behind : Pending = record { waiting = BehindFirst c.args.here c.args.round } in
    let level : Level = record { around = outer; waiting = behind } in
    entered-low c.args.self.now.levels.items c.push.new.self.items c.args.self.now.fuel c.in-Some.left level c.planned.result c.in-Some.ensures
    c.in_ok-push-in-Some.ensures.items c.planned.ensures.falls

pub returns-in-Some-clause-falls : goal.returns-in-Some-clause-falls
returns-in-Some-clause-falls c =
    let outer : Around = record { nest = c.args.here.nest; declared = c.in_ok-declared-in-Some.declared } in
    let behind : Pending = record { waiting = BehindFirst c.args.here c.args.round } in
    let level : Level = record { around = outer; waiting = behind } in
    entered-falls c.args.self.now.levels.items c.push.new.self.items c.args.self.now.fuel c.in-Some.left level c.planned.result c.in-Some.ensures
    c.in_ok-push-in-Some.ensures.items
