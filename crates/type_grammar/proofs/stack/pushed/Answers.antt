use Rattle.std.proofs.Common.{ap, ◌∙◌}
use Rattle.type_grammar.specs.Views.{stack_view}
use Rattle.type_grammar.proofs.Stacks.{stack-push}
use Rattle.type_grammar.proofs.stack.pushed.Goals as goal

pub returns : goal.returns
returns c = ap stack_view c.in_ok-push.ensures.items ∙ stack-push c.args.frames.now.items c.args.frame
