use Rattle.pattern_steps.proofs.Innermost.{popped-whole}
use Rattle.pattern_steps.proofs.follow.innermost.Goals as goal

pub returns : goal.returns
returns c = popped-whole c.args.frames.now.items c.pop.new.self.items c.pop.result _ _ c.pop.ensures.items c.pop.ensures.rest c.pop.ensures.cases
