use Rattle.std.proofs.Common.{◌≡◌, true}
use Rattle.expr_builder.specs.Settling.{pulls_more}
use Rattle.tree_frames.specs.Views.{stack_view}
use Rattle.expr_builder.proofs.Ending.{pulled-off}
use Rattle.expr_builder.proofs.settling.pulling.Goals as goal

pub returns-then-pulls_more-clause-frame : goal.returns-then-pulls_more-clause-frame
returns-then-pulls_more-clause-frame c =
    let more : pulls_more c.args.behind (stack_view c.args.frames.now.items) ≡ true = cc in
    pulled-off c.args.behind _ _ c.popped.result more c.popped.ensures.frame
