use Rattle.type_grammar.proofs.Stacks.{popped-frame}
use Rattle.type_grammar.proofs.stack.popped.Goals as goal

pub returns-clause-frame : goal.returns-clause-frame
returns-clause-frame c = popped-frame c.args.frames.now.items c.pop.new.self.items c.pop.result _ _ c.pop.ensures.items c.pop.ensures.rest c.pop.ensures.cases
