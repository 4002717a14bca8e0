use Rattle.std.proofs.Common.{◌∙◌}
use Rattle.search_steps.proofs.kinds.first_set.Goals as goal

pub returns : goal.returns
returns c = λ setting locals. c.part_of.ensures setting locals ∙ c.in_ok-frame.ensures setting locals
