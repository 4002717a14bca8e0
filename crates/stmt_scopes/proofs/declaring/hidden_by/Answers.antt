use Rattle.std.proofs.Common.{arith}
use Rattle.shared_names.specs.Maps.{held}
use Rattle.stmt_scopes.proofs.Hiding.{hidden_past, hidden_turn}
use Rattle.stmt_scopes.proofs.declaring.hidden_by.Goals as goal

pub loop-name-preserved : goal.loop-name-preserved
loop-name-preserved c =
    hidden_turn c.args.names.now c.loop-name.name-index _ (held c.loop-name.left) (held c.in_ok-left-2.left) _ c.loop-name-test.true c.in_ok-left-2.ensures
    c.loop-name.invariant

pub returns : goal.returns
returns c =
    hidden_past c.args.names.now c.loop-name.name-index (held c.loop-name.left) _ (omega (arith, c.loop-name-test.false)) c.loop-name.invariant
