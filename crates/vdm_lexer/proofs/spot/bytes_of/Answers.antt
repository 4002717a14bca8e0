use Rattle.std.proofs.Common.{ap, ◌∙◌, arith}
use Rattle.std.specs.Char.{len_utf8}
use Rattle.vdm_lexer.proofs.Scans.{bytes-step, same-item}
use Rattle.vdm_lexer.proofs.spot.bytes_of.Goals as goal

pub loop-c-preserved : goal.loop-c-preserved
loop-c-preserved c =
    let item = same-item c.args.text.now c.loop-c.c-index _ c.loop-c-test.true c.c-item.is in
    let width = c.len_utf8-bytes.ensures.value ∙ ap len_utf8 item in
    let step = bytes-step c.args.text.now c.loop-c.c-index c.loop-c-test.true in
    let most = c.len_utf8-bytes.ensures.upper_bound in
    record {
      is = omega arith;
      most = omega arith;
    }
