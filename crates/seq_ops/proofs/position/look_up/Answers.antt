use Rattle.std.proofs.Common.{◌≡◌, ap, sym, ◌∙◌, subst, rules, to_z, of_z}
use Rattle.std.specs.Int.{w128}
use Rattle.std.proofs.lemmas.Int.{to_z-of_z}
use Rattle.value_operators.specs.Outcomes.{Gives}
use Rattle.value_operators.specs.Sequences.{there, at_position}
use Rattle.seq_ops.proofs.Replaced.{look_up_is}
use Rattle.seq_ops.proofs.position.look_up.Goals as goal

pub returns-in-Seq-Int : goal.returns-in-Seq-Int
returns-in-Seq-Int c =
    let same : to_z w128 (of_z w128 c.in-Seq-Int.position) ≡ c.in-Seq-Int.position = search (rules, to_z-of_z) in
    subst (Gives c.at.result)
    (sym (look_up_is c.args.a.now c.args.b.now c.node.result.now c.node-2.result.now c.in-Seq-Int.items c.in-Seq-Int.position
    c.node.ensures.tree c.in-Seq-Int.is-0 c.node-2.ensures.tree c.in-Seq-Int.is-1
    ∙ ap (λ vs. there (at_position vs c.in-Seq-Int.position)) (sym c.as_slice.ensures.value)))
    (subst (λ z. Gives c.at.result (there (at_position c.as_slice.result.now z))) same c.at.ensures)
