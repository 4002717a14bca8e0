use Rattle.std.proofs.Common.{◌≡◌, drop}
use Rattle.class_checks.specs.Members.{uncounted}
use Rattle.class_checks.specs.Results.{first_among}
use Rattle.class_checks.specs.Scopes.{Locals}
use Rattle.check_scopes.specs.Told.{first_in, scope_at, spec_in}
use Rattle.check_names.proofs.words.uncounted.Given as goal

-- those that are left, behind what was refused so far
abbrev pub invariant-loop-named : goal.invariant-loop-named
invariant-loop-named l =
    (bound : Locals) → first_among (first_in l.refusals) (uncounted (spec_in l.setting) (scope_at l.setting bound) (drop l.named-index l.names))
    ≡ first_among (first_in l.fn.refusals) (uncounted (spec_in l.setting) (scope_at l.setting bound) l.names)
