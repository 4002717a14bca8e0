use Rattle.std.proofs.Common.{◌≡◌, drop}
use Rattle.class_checks.specs.Patterns.{some_empty}
use Rattle.check_patterns.specs.Shown.{bindings_in}
use Rattle.check_patterns.proofs.several.some_empty.Given as goal

abbrev pub invariant-loop-found : goal.invariant-loop-found
invariant-loop-found l =
    some_empty (bindings_in (drop l.found-index l.bindings)) ≡ some_empty (bindings_in l.bindings)
