use Rattle.std.proofs.Common.{rules}
use Rattle.std.proofs.lemmas.List.{take_rest}
use Rattle.vdm_outside.proofs.Told.{added_more}
use Rattle.vdm_outside.proofs.writing.write_whole.Goals as goal

pub loop-written-preserved : goal.loop-written-preserved
loop-written-preserved g c =
    let added = rw (take_rest c.args.bytes.now c.loop-written.written) at c.in_ok-written.ensures.bytes in
    record { within = search rules; added = added_more _ _ _ _ _ _ c.loop-written.invariant.added added; calm = search rules }
