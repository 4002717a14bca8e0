use Rattle.std.proofs.Common.{List, ap, sym, ◌∙◌, subst}
use Rattle.abstract_syntax.specs.Values.{ValueTree}
use Rattle.abstract_syntax.specs.ValueSets.{Entry}
use Rattle.value_operators.specs.Members.{found}
use Rattle.value_operators.specs.Outcomes.{Outcome, Gives}
use Rattle.value_operators.specs.Sequences.{there}
use Rattle.value_results.proofs.Operands.{on_map_is}
use Rattle.map_ops.proofs.composition.look_up.Goals as goal

abbrev row : ValueTree → List Entry → Outcome
row key ps = there (found ps key)

pub returns-in-Map : goal.returns-in-Map
returns-in-Map c =
    subst (Gives c.at.result)
    (sym (on_map_is (row c.args.key.now) c.args.a.now c.node.result.now c.in-Map.pairs c.node.ensures.tree c.in-Map.is
    ∙ ap (row c.args.key.now) (sym c.as_slice.ensures.value)))
    c.at.ensures
