use Rattle.value_text.proofs.Coming.{finished, turned}
use Rattle.value_text.proofs.pieces.finish.Goals as goal

pub returns-in_default : goal.returns-in_default
returns-in_default c = finished _ _ _ c.loop-turn.invariant (c.in_default.ensures c.args.names.now)

pub loop-turn-preserved : goal.loop-turn-preserved
loop-turn-preserved c = turned _ _ _ _ _ _ c.in_ok-put.ensures (c.in-Some.ensures c.args.names.now) c.loop-turn.invariant
