use Rattle.std.proofs.Common.{◌≡◌, drop}
use Rattle.std.specs.List.{flat_map}
use Rattle.spec_checks.specs.Threads.{class_left_out}
use Rattle.class_checks.specs.Results.{first_among}
use Rattle.sync_checks.specs.Below.check_scopes.specs.Told.{first_in}
use Rattle.sync_checks.specs.Below.spec_table.specs.Tables.{table_spec}
use Rattle.spec_check.specs.Named.{faults_named}
use Rattle.spec_check.proofs.left_out.refuse_in_classes.Given as goal

-- those that are left, behind what was refused so far
abbrev pub invariant-loop-name : goal.invariant-loop-name
invariant-loop-name l =
    first_among (first_in l.refusals) (flat_map (faults_named class_left_out (table_spec l.table)) (drop l.name-index l.names))
    ≡ first_among (first_in l.fn.refusals) (flat_map (faults_named class_left_out (table_spec l.table)) l.names)
