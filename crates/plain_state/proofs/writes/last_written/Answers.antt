use Rattle.plain_state.proofs.LastWrites.{entry-found, entry-writes_nothing}
use Rattle.plain_state.proofs.writes.last_written.Goals as goal

pub returns-in-Some-written_by : goal.returns-in-Some-written_by
returns-in-Some-written_by c = entry-found _ _ c.args.entries.now _ _ _ c.in-Some.ensures.cases.0 c.loop-last.invariant _ c.if-last-object.true c.in-Some-written_by.ensures

pub loop-last-preserved-in_default-written_by : goal.loop-last-preserved-in_default-written_by
loop-last-preserved-in_default-written_by c = entry-writes_nothing _ _ c.args.entries.now _ _ _ c.in-Some.ensures.cases.0 c.loop-last.invariant c.if-last-object.true c.in_default-written_by.ensures
