use Rattle.std.proofs.Common.{ap, option_map}
use Rattle.patterns.proofs.Opening.{leads_fronts}
use Rattle.patterns.proofs.open.open_fronts.Goals as goal

pub returns-in-Some : goal.returns-in-Some
returns-in-Some c = λ types given ts. leads_fronts types _ _ _ given ts (ap (option_map (λ r. r.now)) c.in-Some.is)
