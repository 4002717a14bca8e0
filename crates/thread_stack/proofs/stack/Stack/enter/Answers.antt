use Rattle.std.proofs.Common.{ap}
use Rattle.spec_table.specs.Tables.{table_spec}
use Rattle.eval_data.specs.Parts.{nest_of}
use Rattle.step_data.specs.declared.level.Level.{Level}
use Rattle.step_data.specs.Actions.{waiting_then}
use Rattle.step_data.specs.Declarations.{declared_of}
use Rattle.step_data.specs.Parts.{task_of}
use Rattle.thread_stack.proofs.Loads.{entered-low, entered-falls}
use Rattle.thread_stack.proofs.Standings.{entered, spent_fails}
use Rattle.thread_stack.proofs.Surroundings.{alike}
use Rattle.thread_stack.proofs.stack.Stack.enter.Goals as goal

pub returns-in-Some-clause-same : goal.returns-in-Some-clause-same
returns-in-Some-clause-same c =
    let level : Level = record { around = c.in_ok-around-in-Some.around; waiting = c.args.waiting } in
    entered (table_spec c.args.self.now.table.now) c.args.self.now.levels.items c.push.new.self.items c.planned.new.around c.args.self.now.around c.planned.new.locals.items
    c.args.self.now.fuel c.in-Some.left level (task_of c.args.task c.args.self.now.locals.items) c.planned.result c.in-Some.ensures c.in_ok-push-in-Some.ensures.items
    (alike c.in_ok-around-in-Some.around c.args.self.now.around (ap nest_of c.in_ok-around-in-Some.ensures.nest) c.in_ok-around-in-Some.ensures.declared)
    c.planned.ensures.same

pub returns-clause-same : goal.returns-clause-same
returns-clause-same c = λ answers.
    let spec = table_spec c.args.self.now.table.now in
    spent_fails spec c.args.self.now.levels.items c.args.self.now.around c.args.self.now.fuel (task_of c.args.task c.args.self.now.locals.items)
    (waiting_then spec c.args.waiting.waiting) _ answers c.in-None.ensures
    (c.unentered.ensures.same spec (declared_of c.args.self.now.around.declared) c.args.self.now.locals.items)

pub returns-in-Some-clause-low : goal.returns-in-Some-clause-low
returns-in-Some-clause-low c =
    let level : Level = record { around = c.in_ok-around-in-Some.around; waiting = c.args.waiting } in
    entered-low c.args.self.now.levels.items c.push.new.self.items c.args.self.now.fuel c.in-Some.left level c.planned.result c.in-Some.ensures
    c.in_ok-push-in-Some.ensures.items c.planned.ensures.falls

pub returns-in-Some-clause-falls : goal.returns-in-Some-clause-falls
returns-in-Some-clause-falls c =
    let level : Level = record { around = c.in_ok-around-in-Some.around; waiting = c.args.waiting } in
    entered-falls c.args.self.now.levels.items c.push.new.self.items c.args.self.now.fuel c.in-Some.left level c.planned.result c.in-Some.ensures
    c.in_ok-push-in-Some.ensures.items
