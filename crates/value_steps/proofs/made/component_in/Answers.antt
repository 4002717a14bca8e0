use Rattle.std.proofs.Common.{ap, sym, ◌∙◌, subst, rules}
use Rattle.std.proofs.lemmas.Int.{to_z-of_z}
use Rattle.value_operators.specs.Outcomes.{Gives}
use Rattle.value_operators.specs.Sequences.{at_position}
use Rattle.node_meaning.specs.Strict.{there}
use Rattle.value_steps.proofs.InTuples.{component_is}
use Rattle.value_steps.proofs.made.component_in.Goals as goal

pub returns-in-Tuple : goal.returns-in-Tuple
returns-in-Tuple c =
    let held : Gives c.component_at.result (there (at_position c.as_slice.result.now c.args.number)) = search (rules, to_z-of_z) in
    subst (Gives c.component_at.result)
    (sym (component_is c.args.number c.args.a.now c.node.result.now c.in-Tuple.items c.node.ensures.tree c.in-Tuple.is
    ∙ ap (λ vs. there (at_position vs c.args.number)) (sym c.as_slice.ensures.value)))
    held
