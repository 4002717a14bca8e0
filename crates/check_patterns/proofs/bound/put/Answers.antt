use Rattle.check_patterns.proofs.Waiting.{put_on, put_behind}
use Rattle.check_patterns.proofs.bound.put.Goals as goal

pub returns-clause-only : goal.returns-clause-only
returns-clause-only c = λ spec class. put_on spec class _ _ _ c.args.next c.in_ok-push.ensures.items

pub returns-clause-behind : goal.returns-clause-behind
returns-clause-behind c = λ spec class first. put_behind spec class _ first _ _ c.args.next c.in_ok-push.ensures.items
