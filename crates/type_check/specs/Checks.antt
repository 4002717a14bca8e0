-- What is still to be done, as a check; and what a turn makes of it.
use Rattle.class_checks.specs.Results.{Checked, gives}
use Rattle.check_named.specs.Below.check_scopes.specs.declared.setting.Setting.{Setting}
use Rattle.check_named.specs.Below.check_frames.specs.Meant.{next_check, under}
use Rattle.type_check.specs.declared.state.State.{State}
use Rattle.type_check.specs.declared.state.Turn.{Turn}
use Rattle.type_check.specs.declared.state.Turn.TheVariants.{Ends, Goes}

abbrev pub state_check : Setting → State → Checked
state_check setting state = under setting state.frames.items (next_check setting state.next)

abbrev pub turn_check : Setting → Turn → Checked
turn_check setting (Ends form) = gives form
turn_check setting (Goes state) = state_check setting state
