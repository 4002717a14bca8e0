use Rattle.std.proofs.Common.{sym, ◌∙◌, subst}
use Rattle.value_operators.specs.Outcomes.{Gives}
use Rattle.value_operators.specs.Sets.{set_two}
use Rattle.value_results.proofs.Operands.{on_sets_is}
use Rattle.set_ops.proofs.operand.of_sets.Goals as goal

pub returns-in-Set-Set : goal.returns-in-Set-Set
returns-in-Set-Set c =
    subst (Gives c.of_members.result)
    (sym (on_sets_is (set_two c.args.operator) c.args.a.now c.args.b.now c.node.result.now c.node-2.result.now c.in-Set-Set.a c.in-Set-Set.b
    c.node.ensures.tree c.in-Set-Set.is-0 c.node-2.ensures.tree c.in-Set-Set.is-1
    ∙ (λ i. set_two c.args.operator (sym c.as_slice.ensures.value i) (sym c.as_slice-in-Set-Set.ensures.value i))))
    c.of_members.ensures
