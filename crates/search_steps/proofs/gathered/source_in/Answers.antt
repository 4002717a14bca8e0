use Rattle.std.proofs.Common.{rules}
use Rattle.search_steps.proofs.Binds.{source_shown}
use Rattle.search_steps.proofs.gathered.source_in.Goals as goal

pub returns : goal.returns
returns c = source_shown c.args.bind.now c.len.result (search rules)
