use Rattle.std.proofs.Common.{refl, ap}
use Rattle.stmt_meaning.specs.Questions.{questions_of}
use Rattle.spec_table.specs.Tables.{table_spec}
use Rattle.eval_data.specs.Parts.{need_of, nest_of}
use Rattle.step_data.specs.declared.level.Level.{Level}
use Rattle.step_data.specs.declared.pending.Pending.{Pending}
use Rattle.step_data.specs.declared.waiting.Waiting.TheVariants.{After}
use Rattle.thread_stack.proofs.Loads.{needing-low, needing-falls}
use Rattle.thread_stack.proofs.Standings.{needing}
use Rattle.thread_stack.proofs.Surroundings.{alike}
use Rattle.thread_stack.proofs.stack.Stack.need.Goals as goal

pub returns-clause-same : goal.returns-clause-same
returns-clause-same c =
    let behind : Pending = record { waiting = After c.args.after c.args.place } in
    let level : Level = record { around = c.in_ok-around.around; waiting = behind } in
    needing (table_spec c.args.self.now.table.now) c.args.self.now.levels.items c.push.new.self.items c.args.self.now.around _ c.args.self.now.fuel level
    (questions_of (table_spec c.args.self.now.table.now) (need_of c.args.need) c.args.place c.args.self.now.locals.items) c.needed.result
    c.in_ok-push.ensures.items (alike c.in_ok-around.around c.args.self.now.around (ap nest_of c.in_ok-around.ensures.nest) c.in_ok-around.ensures.declared)
    c.needed.ensures.same

pub returns-clause-low : goal.returns-clause-low
returns-clause-low c =
    let behind : Pending = record { waiting = After c.args.after c.args.place } in
    let level : Level = record { around = c.in_ok-around.around; waiting = behind } in
    needing-low c.args.self.now.levels.items c.push.new.self.items c.args.self.now.fuel level c.needed.result c.in_ok-push.ensures.items refl c.needed.ensures.falls

pub returns-clause-falls : goal.returns-clause-falls
returns-clause-falls c =
    let behind : Pending = record { waiting = After c.args.after c.args.place } in
    let level : Level = record { around = c.in_ok-around.around; waiting = behind } in
    needing-falls c.args.self.now.levels.items c.push.new.self.items c.args.self.now.fuel level c.needed.result c.in_ok-push.ensures.items refl c.needed.ensures.busy
