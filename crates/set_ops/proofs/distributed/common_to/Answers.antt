use Rattle.std.proofs.Common.{map, sym, ◌∙◌, subst}
use Rattle.std.specs.List.{filter}
use Rattle.abstract_syntax.specs.ValueSets.{set_value}
use Rattle.value_operators.specs.Outcomes.{Gives, sized}
use Rattle.value_operators.specs.Sets.{members_of, in_every}
use Rattle.value_results.proofs.Operands.{members_is}
use Rattle.set_ops.proofs.distributed.common_to.Goals as goal

pub returns-in-Set : goal.returns-in-Set
returns-in-Set c =
    subst (λ vs. Gives c.of_members.result (sized (set_value (filter (in_every (map members_of c.args.others.now)) vs))))
    (c.as_slice.ensures.value ∙ sym (members_is c.args.first.now c.node.result.now c.in-Set.members c.node.ensures.tree c.in-Set.is))
    c.of_members.ensures
