use Rattle.std.proofs.Common.{arith}
use Rattle.vdm_tree.specs.ClassView.{function_view}
use Rattle.spec_checks.specs.Definitions.{function_faults}
use Rattle.sync_checks.specs.Below.check_scopes.specs.Told.{first_in}
use Rattle.sync_checks.specs.Below.definition_scopes.specs.Standing.{spec_at}
use Rattle.spec_check.proofs.Turns.{turn, ended}
use Rattle.spec_check.proofs.lists.refuse_functions.Goals as goal

pub loop-definition-preserved : goal.loop-definition-preserved
loop-definition-preserved c =
    turn (function_faults (spec_at c.args.site) c.args.site.class) function_view c.args.definitions.now c.loop-definition.definition-index c.definition-item.result
    (first_in c.loop-definition.refusals) (first_in c.refuse_function.new.refusals) _ c.definition-item.is c.loop-definition-test.true c.in_ok-refuse_function.ensures c.loop-definition.invariant

pub returns : goal.returns
returns c =
    ended (function_faults (spec_at c.args.site) c.args.site.class) function_view c.args.definitions.now c.loop-definition.definition-index (first_in c.loop-definition.refusals) _
    (omega (arith, c.loop-definition-test.false)) c.loop-definition.invariant
