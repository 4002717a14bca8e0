use Rattle.std.proofs.Common.{ap, sym, ◌∙◌, subst}
use Rattle.value_operators.specs.Outcomes.{Gives}
use Rattle.value_operators.specs.Sets.{of_all_sets, union_of_all}
use Rattle.value_results.proofs.Operands.{on_set_is}
use Rattle.set_ops.proofs.distributed.union_of_all.Goals as goal

pub returns-in-Set : goal.returns-in-Set
returns-in-Set c =
    subst (Gives c.all_members.result)
    (sym (on_set_is (of_all_sets union_of_all) c.args.a.now c.node.result.now c.in-Set.sets c.node.ensures.tree c.in-Set.is
    ∙ ap (of_all_sets union_of_all) (sym c.as_slice.ensures.value)))
    c.all_members.ensures
