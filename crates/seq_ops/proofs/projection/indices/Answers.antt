use Rattle.std.proofs.Common.{pos, length, ap, sym, ◌∙◌, subst}
use Rattle.std.specs.List.Sorted.{IsStrictlySortedBy}
use Rattle.abstract_syntax.specs.Values.{set_of, value_trees}
use Rattle.abstract_syntax.specs.ValueOrder.{value_order}
use Rattle.value_operators.specs.Outcomes.{Gives, sized}
use Rattle.value_operators.proofs.Consecutive.{numbers_rise, numbers_are_a_set}
use Rattle.seq_ops.proofs.projection.indices.Goals as goal

pub new-requires : goal.new-requires
new-requires c = subst (IsStrictlySortedBy value_order) (sym c.in_ok-numbers.ensures) (numbers_rise (pos 1) (length c.args.items.now))

pub returns : goal.returns
returns c =
    subst (λ v. Gives c.sized.result (sized v))
    (c.new.ensures ∙ ap (λ vs. set_of (value_trees vs)) c.in_ok-numbers.ensures ∙ sym (numbers_are_a_set (pos 1) (length c.args.items.now)))
    c.sized.ensures
