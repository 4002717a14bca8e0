use Rattle.patterns.proofs.Steps.{ends_on, ends_back, ends_nowhere}
use Rattle.patterns.proofs.search.Search.end_turn.Goals as goal

pub returns-then-on : goal.returns-then-on
returns-then-on c = λ types. ends_on types _ _ c.if-on.true c.requires

pub returns-then-back : goal.returns-then-back
returns-then-back c = λ types. ends_back types _ _ _ _ c.if-on.false c.if-back.true (c.back.ensures types)

pub returns-else-back : goal.returns-else-back
returns-else-back c = λ types. ends_nowhere types _ _ _ _ c.if-on.false c.if-back.false (c.back.ensures types)
