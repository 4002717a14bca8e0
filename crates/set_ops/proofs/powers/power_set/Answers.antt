use Rattle.std.proofs.Common.{List, ap, sym, ◌∙◌, subst}
use Rattle.abstract_syntax.specs.Values.{ValueTree}
use Rattle.value_operators.specs.Outcomes.{Outcome, Gives, sized}
use Rattle.value_operators.specs.Sets.{power_set}
use Rattle.value_results.proofs.Operands.{on_set_is}
use Rattle.set_ops.proofs.powers.power_set.Goals as goal

abbrev row : List ValueTree → Outcome
row vs = sized (power_set vs)

pub returns-in-Set : goal.returns-in-Set
returns-in-Set c =
    subst (Gives c.of_members.result)
    (sym (on_set_is row c.args.a.now c.node.result.now c.in-Set.members c.node.ensures.tree c.in-Set.is ∙ ap row (sym c.as_slice.ensures.value)))
    c.of_members.ensures
