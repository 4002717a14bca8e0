use Rattle.std.proofs.Common.{ap, ◌∙◌}
use Rattle.token_reader.specs.Values.{escape_length}
use Rattle.token_reader.proofs.Decoding.{decoded-skipped, decoded-escape, decoded-plain}
use Rattle.token_reader.proofs.escape.decoded.Goals as goal
use Rattle.token_reader.proofs.escape.decoded.Goals.{then-skipped-gt0, else-skipped-gt0+then-c-eq92+in_ok-push, else-skipped-gt0+else-c-eq92+in_ok-push-2}

pub loop-i-preserved : goal.loop-i-preserved
loop-i-preserved c =
    let text = c.args.text.now in
    elim c.if-skipped-gt0.branch [
      | then-skipped-gt0 w ↦ rw (w.found-is, w.skipped-is) (decoded-skipped text c.loop-i.i _ c.loop-i-test.true c.index-text-i.is _ _ c.loop-i.skipped w.if-skipped-gt0.true c.loop-i.invariant)
      | else-skipped-gt0+then-c-eq92+in_ok-push w ↦ rw (w.found-is, w.skipped-is) (decoded-escape text c.loop-i.i _ c.loop-i-test.true c.index-text-i.is _ _ c.loop-i.skipped _ _ _ _ w.if-skipped-gt0.false w.if-c-eq92.true w.behind-escape.ensures w.escape_value.ensures (w.escape_length-skipped.ensures ∙ ap escape_length w.first.ensures) w.in_ok-push.ensures.items c.loop-i.invariant)
      | else-skipped-gt0+else-c-eq92+in_ok-push-2 w ↦ rw (w.found-is, w.skipped-is) (decoded-plain text c.loop-i.i _ c.loop-i-test.true c.index-text-i.is _ _ c.loop-i.skipped _ w.if-skipped-gt0.false w.if-c-eq92.false w.in_ok-push-2.ensures.items c.loop-i.invariant)
    ]
