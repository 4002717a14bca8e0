use Rattle.std.proofs.Common.{◌≡◌}
use Rattle.stmt_kinds.specs.Below.check_scopes.specs.Told.{first_in}
use Rattle.stmt_kinds.specs.Below.stmt_scopes.specs.Refused.{refused}
use Rattle.stmt_check.specs.Checks.{state_check}
use Rattle.stmt_check.proofs.run.run.Given as goal

-- what is still to be done tells of the whole
abbrev pub invariant-loop-step : goal.invariant-loop-step
invariant-loop-step l =
    refused (first_in l.initial.refusals) (state_check l.setting l.returned l.fn.state) ≡ refused (first_in l.refusals) (state_check l.setting l.returned l.state)
