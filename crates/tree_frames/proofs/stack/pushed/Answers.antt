use Rattle.std.proofs.Common.{ap, ◌∙◌}
use Rattle.tree_frames.specs.Views.{stack_view}
use Rattle.tree_frames.proofs.Stacks.{stack-push}
use Rattle.tree_frames.proofs.stack.pushed.Goals as goal

pub returns : goal.returns
returns c = ap stack_view c.in_ok-push.ensures.items ∙ stack-push c.args.frames.now.items c.args.frame
