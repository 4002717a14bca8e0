use Rattle.type_grammar.proofs.Stacks.{top-last}
use Rattle.type_grammar.proofs.stack.stack_top.Goals as goal

pub returns-in-Some : goal.returns-in-Some
returns-in-Some c = top-last c.args.frames.now c.in-Some.frame.now c.frame_top.result c.in-Some.ensures.value c.frame_top.ensures
