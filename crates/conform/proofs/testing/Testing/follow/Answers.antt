use Rattle.conform.proofs.Makings.{followed}
use Rattle.conform.proofs.testing.Testing.follow.Goals as goal

pub returns : goal.returns
returns c = λ find descends rank.
    followed find descends rank c.args.self.now.waiting.items _ _ c.args.tests.items c.in_ok-push.ensures.items c.reverse.ensures.items
