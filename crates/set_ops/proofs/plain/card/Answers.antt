use Rattle.std.proofs.Common.{◌<◌, ◌^◌, Ok, pos, length, ap, sym, ◌∙◌, arith}
use Rattle.std.specs.Int.{w128}
use Rattle.std.proofs.lemmas.Int.{to_z_pos}
use Rattle.abstract_syntax.specs.Values.{number}
use Rattle.value_results.proofs.Operands.{on_set_is}
use Rattle.set_ops.proofs.plain.card.Goals as goal

pub returns-in-Set : goal.returns-in-Set
returns-in-Set c =
    let short : length c.as_slice.result.now < 2 ^ 127 = omega (arith, c.as_slice.type_inv.0) in
    on_set_is (λ vs. Ok (number (pos (length vs)))) c.args.a.now c.node.result.now c.in-Set.members c.node.ensures.tree c.in-Set.is
    ∙ ap (λ vs. Ok (number (pos (length vs)))) (sym c.as_slice.ensures.value)
    ∙ ap (λ z. Ok (number z)) (sym (to_z_pos w128 (length c.as_slice.result.now) short))
    ∙ ap Ok (sym c.new.ensures)
