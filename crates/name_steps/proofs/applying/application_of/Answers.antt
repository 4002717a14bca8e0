use Rattle.name_steps.specs.Settings.{set}
use Rattle.name_steps.proofs.applying.application_of.Goals as goal

pub returns-in-Member : goal.returns-in-Member
returns-in-Member c = λ asker. rw c.in-Member.is (c.boxed_part.ensures (set c.args.table.now asker) c.args.locals.now)
