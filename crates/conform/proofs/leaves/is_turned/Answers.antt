use Rattle.std.proofs.Common.{ap, ◌∙◌}
use Rattle.vdm_kinds.specs.declared.halt.Halt.TheVariants.{Of}
use Rattle.conform.proofs.Turnings.{gives_conflict}
use Rattle.conform.proofs.leaves.is_turned.Goals as goal

pub returns-in-Err-Of-MapConflict : goal.returns-in-Err-Of-MapConflict
returns-in-Err-Of-MapConflict c = gives_conflict c.args.value.now _ (c.in-Err-Of-MapConflict.field-0-is ∙ ap Of c.in-Err-Of-MapConflict.field-0-0-is) c.in-Err-Of-MapConflict.ensures
