use Rattle.std.proofs.Common.{subst}
use Rattle.value_operators.specs.Outcomes.{Gives}
use Rattle.value_operators.specs.Maps.{joined}
use Rattle.value_results.proofs.Limits.{gives_map}
use Rattle.value_results.proofs.results.map_result.Goals as goal

pub returns : goal.returns
returns c =
    subst (λ pairs. Gives c.map_from.result (joined pairs)) c.from_vec.ensures
    (gives_map c.map_from.result _ c.map_from.ensures.made c.map_from.ensures.refused)
