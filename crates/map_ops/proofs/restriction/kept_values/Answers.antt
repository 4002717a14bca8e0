use Rattle.std.proofs.Common.{List, sym, ◌∙◌, subst}
use Rattle.abstract_syntax.specs.Values.{ValueTree}
use Rattle.abstract_syntax.specs.ValueSets.{Entry}
use Rattle.value_operators.specs.Outcomes.{Outcome, Gives, sized}
use Rattle.value_operators.specs.Maps.{kept_values}
use Rattle.value_results.proofs.Operands.{on_set_and_map_is}
use Rattle.map_ops.proofs.restriction.kept_values.Goals as goal

abbrev row : List ValueTree → List Entry → Outcome
row vs ps = sized (kept_values vs ps)

pub returns-in-Set-Map : goal.returns-in-Set-Map
returns-in-Set-Map c =
    subst (Gives c.of_kept_values.result)
    (sym (on_set_and_map_is row c.args.set.now c.args.map.now c.node.result.now c.node-2.result.now c.in-Set-Map.members c.in-Set-Map.pairs
    c.node.ensures.tree c.in-Set-Map.is-0 c.node-2.ensures.tree c.in-Set-Map.is-1
    ∙ (λ i. row (sym c.as_slice.ensures.value i) (sym c.as_slice-in-Set-Map.ensures.value i))))
    c.of_kept_values.ensures
