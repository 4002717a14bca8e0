use Rattle.std.proofs.Common.{◌∙◌}
use Rattle.definition_parts.proofs.Factors.{factors-taken}
use Rattle.definition_parts.proofs.parameters.factors.Goals as goal

pub returns-in-Product : goal.returns-in-Product
returns-in-Product c = factors-taken c.args.declared c.in-Product.factors c.replace.result _ c.in-Product.is (c.replace.ensures.value ∙ c.in-Product.factors-is)
