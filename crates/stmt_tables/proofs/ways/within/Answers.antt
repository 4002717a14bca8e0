use Rattle.std.proofs.Common.{◌∙◌}
use Rattle.stmt_tables.proofs.Wanting.{nothing_more}
use Rattle.stmt_tables.proofs.ways.within.Goals as goal

pub returns : goal.returns
returns c = c.at_most.ensures ∙ c.inner.ensures ∙ nothing_more _
