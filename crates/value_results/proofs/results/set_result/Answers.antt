use Rattle.std.proofs.Common.{subst}
use Rattle.abstract_syntax.specs.ValueSets.{set_value}
use Rattle.value_operators.specs.Outcomes.{Gives, sized}
use Rattle.value_results.proofs.Limits.{gives_set}
use Rattle.value_results.proofs.results.set_result.Goals as goal

pub returns : goal.returns
returns c =
    subst (λ items. Gives c.set_from.result (sized (set_value items))) c.from_vec.ensures
    (gives_set c.set_from.result _ c.set_from.ensures.made c.set_from.ensures.refused)
