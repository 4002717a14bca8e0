-- What is still to be done, as a check; and what a turn makes of it.
use Rattle.class_checks.specs.Results.{Checked}
use Rattle.spec_checks.specs.Statements.{done}
use Rattle.stmt_kinds.specs.Below.check_scopes.specs.declared.setting.Setting.{Setting}
use Rattle.stmt_kinds.specs.Below.stmt_pending.specs.Meant.{next_check, under}
use Rattle.stmt_kinds.specs.Below.stmt_scopes.specs.declared.returned.Returned.{Returned}
use Rattle.stmt_check.specs.declared.state.State.{State}
use Rattle.stmt_check.specs.declared.state.Turn.{Turn}
use Rattle.stmt_check.specs.declared.state.Turn.TheVariants.{Ends, Goes}

abbrev pub state_check : Setting → Returned → State → Checked
state_check setting returned state = under setting returned state.stack.items (next_check setting returned state.next)

abbrev pub turn_check : Setting → Returned → Turn → Checked
turn_check setting returned Ends = done
turn_check setting returned (Goes state) = state_check setting returned state
