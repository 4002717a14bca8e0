use Rattle.expr_builder.proofs.Ending.{last-pulls}
use Rattle.expr_builder.proofs.settling.pulls_more.Goals as goal

pub returns-in-Some : goal.returns-in-Some
returns-in-Some c = last-pulls c.args.behind c.args.frames.now c.in-Some.frame.now c.pull.result c.in-Some.ensures.value c.pull.ensures
