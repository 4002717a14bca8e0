use Rattle.std.proofs.Common.{◌≡◌}
use Rattle.check_types.specs.Below.check_scopes.specs.Told.{spec_in, types_in}
use Rattle.check_patterns.specs.Pending.{all_found}
use Rattle.check_patterns.proofs.bound.all_bound.Given as goal

abbrev pub invariant-loop-step : goal.invariant-loop-step
invariant-loop-step l =
    all_found (spec_in l.setting) (types_in l.setting) l.binding ≡ all_found (spec_in l.setting) (types_in l.setting) l.fn.binding
