use Rattle.value_results.proofs.Limits.{gives_sized}
use Rattle.value_results.proofs.results.sized.Goals as goal

pub returns : goal.returns
returns c = gives_sized c.within_limits.result c.args.v c.within_limits.ensures.made c.within_limits.ensures.refused
