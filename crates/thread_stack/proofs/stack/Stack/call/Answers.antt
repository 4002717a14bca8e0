use Rattle.std.proofs.Common.{length, refl, ap, ◌∙◌}
use Rattle.spec_table.specs.Tables.{table_spec}
use Rattle.eval_data.specs.Parts.{nest_of}
use Rattle.step_data.specs.declared.level.Level.{Level}
use Rattle.step_data.specs.declared.pending.Pending.{Pending}
use Rattle.step_data.specs.declared.waiting.Waiting.TheVariants.{Back}
use Rattle.thread_stack.proofs.Loads.{calling-low, needing-falls}
use Rattle.thread_stack.proofs.Standings.{calling}
use Rattle.thread_stack.proofs.Surroundings.{alike}
use Rattle.thread_stack.proofs.stack.Stack.call.Goals as goal

pub returns-clause-same : goal.returns-clause-same
returns-clause-same c =
    let behind : Pending = record { waiting = Back c.replace-saved.result } in
    let level : Level = record { around = c.in_ok-around.around; waiting = behind } in
    calling (table_spec c.args.self.now.table.now) c.args.self.now.levels.items c.push.new.self.items c.args.self.now.around _ _ c.args.self.now.locals.items
    c.replace-saved.result.items c.args.self.now.fuel level c.args.call.value c.begun.result
    c.in_ok-push.ensures.items (alike c.in_ok-around.around c.args.self.now.around (ap nest_of c.in_ok-around.ensures.nest) c.in_ok-around.ensures.declared)
    refl (ap (λ (v : _). v.items) c.replace-saved.ensures.value) (ap (λ (v : _). v.items) c.replace-saved.ensures.after ∙ c.new.ensures.items)
    c.begun.ensures.same

pub returns-clause-low : goal.returns-clause-low
returns-clause-low c =
    let behind : Pending = record { waiting = Back c.replace-saved.result } in
    let level : Level = record { around = c.in_ok-around.around; waiting = behind } in
    calling-low c.args.self.now.levels.items c.push.new.self.items c.args.self.now.fuel (length c.args.call.value.olds.items) level c.begun.result
    c.in_ok-push.ensures.items refl c.begun.ensures.falls

pub returns-clause-falls : goal.returns-clause-falls
returns-clause-falls c =
    let behind : Pending = record { waiting = Back c.replace-saved.result } in
    let level : Level = record { around = c.in_ok-around.around; waiting = behind } in
    needing-falls c.args.self.now.levels.items c.push.new.self.items c.args.self.now.fuel level c.begun.result c.in_ok-push.ensures.items refl c.begun.ensures.busy
