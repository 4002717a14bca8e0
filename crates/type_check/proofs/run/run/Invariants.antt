use Rattle.std.proofs.Common.{◌≡◌}
use Rattle.check_named.specs.Below.check_scopes.specs.Told.{first_in, told}
use Rattle.type_check.specs.Checks.{state_check}
use Rattle.type_check.proofs.run.run.Given as goal

-- what is still to be done tells of the whole
abbrev pub invariant-loop-step : goal.invariant-loop-step
invariant-loop-step l =
    told (first_in l.initial.refusals) (state_check l.setting l.fn.state) ≡ told (first_in l.refusals) (state_check l.setting l.state)
