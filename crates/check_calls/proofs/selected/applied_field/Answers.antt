use Rattle.std.proofs.Common.{[], refl}
use Rattle.check_names.proofs.Notes.{if_ok}
use Rattle.check_calls.proofs.selected.applied_field.Goals as goal

pub returns : goal.returns
returns c = if_ok c.looked_up_behind.result c.looked_up_behind.ensures (λ selection is names. is [] refl refl)
