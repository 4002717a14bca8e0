use Rattle.std.proofs.Common.{◌≡◌, drop}
use Rattle.spec_checks.specs.Targets.{hidden_by}
use Rattle.stmt_scopes.specs.Standing.{declared_in}
use Rattle.stmt_scopes.proofs.declaring.hidden_by.Given as goal

-- the names that are left hide what is left so far
abbrev pub invariant-loop-name : goal.invariant-loop-name
invariant-loop-name l =
    hidden_by (drop l.name-index l.names) (declared_in l.left) ≡ hidden_by l.names (declared_in l.declared)
