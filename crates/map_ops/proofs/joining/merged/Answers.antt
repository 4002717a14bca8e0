use Rattle.std.proofs.Common.{ap, sym, ◌∙◌, subst}
use Rattle.value_operators.specs.Outcomes.{Gives}
use Rattle.value_operators.specs.Maps.{of_all_maps, merged}
use Rattle.value_results.proofs.Operands.{on_set_is}
use Rattle.map_ops.proofs.joining.merged.Goals as goal

pub returns-in-Set : goal.returns-in-Set
returns-in-Set c =
    subst (Gives c.all_pairs.result)
    (sym (on_set_is (of_all_maps merged) c.args.a.now c.node.result.now c.in-Set.maps c.node.ensures.tree c.in-Set.is
    ∙ ap (of_all_maps merged) (sym c.as_slice.ensures.value)))
    c.all_pairs.ensures
