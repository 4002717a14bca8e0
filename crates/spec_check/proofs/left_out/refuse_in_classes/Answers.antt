use Rattle.std.proofs.Common.{arith}
use Rattle.spec_checks.specs.Threads.{class_left_out}
use Rattle.sync_checks.specs.Below.check_scopes.specs.Told.{first_in}
use Rattle.sync_checks.specs.Below.spec_table.specs.Tables.{table_spec}
use Rattle.spec_check.specs.Named.{faults_named}
use Rattle.spec_check.proofs.Turns.{plain_turn, plain_ended}
use Rattle.spec_check.proofs.left_out.refuse_in_classes.Goals as goal

pub loop-name-preserved : goal.loop-name-preserved
loop-name-preserved c =
    plain_turn (faults_named class_left_out (table_spec c.args.table.now)) c.args.names.now c.loop-name.name-index _
    (first_in c.loop-name.refusals) (first_in c.refuse_in_class.new.refusals) _ c.loop-name-test.true c.refuse_in_class.ensures c.loop-name.invariant

pub returns : goal.returns
returns c =
    plain_ended (faults_named class_left_out (table_spec c.args.table.now)) c.args.names.now c.loop-name.name-index (first_in c.loop-name.refusals) _
    (omega (arith, c.loop-name-test.false)) c.loop-name.invariant
