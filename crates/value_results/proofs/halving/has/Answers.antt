use Rattle.std.proofs.Common.{◌∙◌}
use Rattle.value_results.proofs.Searches.{has_searched}
use Rattle.value_results.proofs.halving.has.Goals as goal

pub returns : goal.returns
returns c = c.is_ok.ensures.value ∙ has_searched c.args.members.now c.args.value.now c.binary_search.result c.requires c.binary_search.ensures.bound c.binary_search.ensures.position
