use Rattle.stmt_openings.proofs.Regroup.{always-in}
use Rattle.stmt_openings.proofs.openings.always_opening.Goals as goal

pub returns : goal.returns
returns c = λ one tokens. always-in one c.args.place tokens
