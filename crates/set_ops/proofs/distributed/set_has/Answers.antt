use Rattle.std.proofs.Common.{ap, sym, ◌∙◌}
use Rattle.value_operators.specs.Members.{has}
use Rattle.value_results.proofs.Operands.{members_is}
use Rattle.set_ops.proofs.distributed.set_has.Goals as goal

pub returns-in-Set : goal.returns-in-Set
returns-in-Set c =
    c.has.ensures
    ∙ ap (λ vs. has vs c.args.value.now)
    (c.as_slice.ensures.value ∙ sym (members_is c.args.set.now c.node.result.now c.in-Set.members c.node.ensures.tree c.in-Set.is))
