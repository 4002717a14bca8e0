use Rattle.std.proofs.Common.{sym, ◌∙◌, subst}
use Rattle.value_operators.specs.Outcomes.{Gives}
use Rattle.value_operators.specs.Maps.{map_two}
use Rattle.value_results.proofs.Operands.{on_maps_is}
use Rattle.map_ops.proofs.operand.of_maps.Goals as goal

pub returns-in-Map-Map : goal.returns-in-Map-Map
returns-in-Map-Map c =
    subst (Gives c.of_two.result)
    (sym (on_maps_is (map_two c.args.operator) c.args.a.now c.args.b.now c.node.result.now c.node-2.result.now c.in-Map-Map.a c.in-Map-Map.b
    c.node.ensures.tree c.in-Map-Map.is-0 c.node-2.ensures.tree c.in-Map-Map.is-1
    ∙ (λ i. map_two c.args.operator (sym c.as_slice.ensures.value i) (sym c.as_slice-in-Map-Map.ensures.value i))))
    c.of_two.ensures
