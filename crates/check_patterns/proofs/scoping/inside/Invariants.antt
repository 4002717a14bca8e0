use Rattle.std.proofs.Common.{◌≡◌, map, drop}
use Rattle.shared_names.specs.Maps.{held}
use Rattle.class_checks.specs.Scopes.{all_bound}
use Rattle.check_patterns.specs.Shown.{local_view}
use Rattle.check_patterns.proofs.scoping.inside.Given as goal

abbrev pub invariant-loop-local : goal.invariant-loop-local
invariant-loop-local l =
    all_bound (map local_view (drop l.local-index l.found)) (held l.all) ≡ all_bound (map local_view l.found) (held l.locals)
