use Rattle.std.proofs.Common.{ap, option_map}
use Rattle.patterns.proofs.Opening.{leads_empty}
use Rattle.patterns.proofs.open.open_empty.Goals as goal

pub returns-then-entries-eq0 : goal.returns-then-entries-eq0
returns-then-entries-eq0 c = λ types given ts. leads_empty types _ _ _ (ap (option_map (λ r. r.now)) c.in-Some.is) c.if-entries-eq0.true
