use Rattle.std.proofs.Common.{◌≡◌, ◌++◌, drop}
use Rattle.shared_names.specs.Maps.{held}
use Rattle.class_checks.specs.Patterns.{with_each}
use Rattle.check_types.specs.Below.check_scopes.specs.Told.{scope_at}
use Rattle.check_types.specs.Below.check_scopes.specs.declared.setting.Setting.{Setting}
use Rattle.check_patterns.specs.Shown.{bindings_in, scopes_at}
use Rattle.check_patterns.proofs.several.with_each.Given as goal

abbrev pub invariant-loop-found : goal.invariant-loop-found
invariant-loop-found l =
    (setting : Setting) → scopes_at setting l.scopes.items ++ with_each (scope_at setting (held l.locals)) (bindings_in (drop l.found-index l.bindings))
    ≡ scopes_at setting l.initial.scopes.items ++ with_each (scope_at setting (held l.locals)) (bindings_in l.bindings)
