use Rattle.std.proofs.Common.{Ok, not, ap, sym, ◌∙◌}
use Rattle.value_operators.specs.Numbers.{truth}
use Rattle.value_operators.specs.Members.{has}
use Rattle.value_results.proofs.Operands.{on_set_is}
use Rattle.set_ops.proofs.comparison.not_in_set.Goals as goal

pub returns-in-Set : goal.returns-in-Set
returns-in-Set c =
    on_set_is (λ ws. truth (not (has ws c.args.value.now))) c.args.set.now c.node.result.now c.in-Set.members c.node.ensures.tree c.in-Set.is
    ∙ ap (λ ws. truth (not (has ws c.args.value.now))) (sym c.as_slice.ensures.value)
    ∙ ap (λ b. truth (not b)) (sym c.has.ensures)
    ∙ ap Ok (sym c.truth.ensures)
