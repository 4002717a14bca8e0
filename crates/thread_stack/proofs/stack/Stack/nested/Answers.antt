use Rattle.std.proofs.Common.{ap}
use Rattle.spec_table.specs.Tables.{table_spec}
use Rattle.eval_data.specs.Parts.{nest_of}
use Rattle.step_data.specs.declared.level.Level.{Level}
use Rattle.step_data.specs.Actions.{waiting_then}
use Rattle.step_data.specs.Declarations.{declared_of}
use Rattle.step_data.specs.Parts.{expression_in}
use Rattle.thread_stack.proofs.Loads.{tests-low, tests-falls}
use Rattle.thread_stack.proofs.Standings.{tests, spent_tests}
use Rattle.thread_stack.proofs.Surroundings.{alike}
use Rattle.thread_stack.proofs.stack.Stack.nested.Goals as goal

pub returns-in-Some-clause-same : goal.returns-in-Some-clause-same
returns-in-Some-clause-same c =
    let first : Level = record { around = c.in_ok-first-in-Some.first; waiting = c.args.outer } in
    let second : Level = record { around = c.in_ok-second-in-Some.second; waiting = c.args.inner } in
    tests (table_spec c.args.self.now.table.now) c.args.self.now.levels.items c.push.new.self.items c.push-in-Some.new.self.items c.planned.new.around c.args.self.now.around
    c.planned.new.locals.items c.args.self.now.fuel c.in-Some.left first second
    (expression_in c.args.here c.args.tree c.args.self.now.locals.items) c.planned.result c.in-Some.ensures c.in_ok-push-in-Some.ensures.items
    c.in_ok-push-in-Some-2.ensures.items
    (alike first.around c.args.self.now.around (ap nest_of c.in_ok-first-in-Some.ensures.nest) c.in_ok-first-in-Some.ensures.declared)
    (alike second.around c.args.self.now.around (ap nest_of c.in_ok-second-in-Some.ensures.nest) c.in_ok-second-in-Some.ensures.declared)
    c.planned.ensures.same

pub returns-clause-same : goal.returns-clause-same
returns-clause-same c = λ answers.
    let spec = table_spec c.args.self.now.table.now in
    spent_tests spec c.args.self.now.levels.items c.args.self.now.around c.args.self.now.fuel (expression_in c.args.here c.args.tree c.args.self.now.locals.items)
    (waiting_then spec c.args.inner.waiting) (waiting_then spec c.args.outer.waiting) _ answers c.in-None.ensures
    (c.unentered.ensures.same spec (declared_of c.args.self.now.around.declared) c.args.self.now.locals.items)

pub returns-in-Some-clause-low : goal.returns-in-Some-clause-low
returns-in-Some-clause-low c =
    let first : Level = record { around = c.in_ok-first-in-Some.first; waiting = c.args.outer } in
    let second : Level = record { around = c.in_ok-second-in-Some.second; waiting = c.args.inner } in
    tests-low c.args.self.now.levels.items c.push.new.self.items c.push-in-Some.new.self.items c.args.self.now.fuel c.in-Some.left second first c.planned.result c.in-Some.ensures
    c.in_ok-push-in-Some.ensures.items c.in_ok-push-in-Some-2.ensures.items c.planned.ensures.falls

pub returns-in-Some-clause-falls : goal.returns-in-Some-clause-falls
returns-in-Some-clause-falls c =
    let first : Level = record { around = c.in_ok-first-in-Some.first; waiting = c.args.outer } in
    let second : Level = record { around = c.in_ok-second-in-Some.second; waiting = c.args.inner } in
    tests-falls c.args.self.now.levels.items c.push.new.self.items c.push-in-Some.new.self.items c.args.self.now.fuel c.in-Some.left second first c.planned.result c.in-Some.ensures
    c.in_ok-push-in-Some.ensures.items c.in_ok-push-in-Some-2.ensures.items
