use Rattle.std.proofs.Common.{ap, sym, ◌∙◌, subst}
use Rattle.value_operators.specs.Outcomes.{Gives}
use Rattle.value_operators.specs.Maps.{map_one}
use Rattle.value_results.proofs.Operands.{on_map_is}
use Rattle.map_ops.proofs.operand.of_map.Goals as goal

pub returns-in-Map : goal.returns-in-Map
returns-in-Map c =
    subst (Gives c.of_pairs.result)
    (sym (on_map_is (map_one c.args.operator) c.args.a.now c.node.result.now c.in-Map.pairs c.node.ensures.tree c.in-Map.is
    ∙ ap (map_one c.args.operator) (sym c.as_slice.ensures.value)))
    c.of_pairs.ensures
