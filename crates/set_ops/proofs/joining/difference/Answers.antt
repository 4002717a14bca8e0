use Rattle.std.proofs.Common.{not, ap, sym, ◌∙◌, subst}
use Rattle.std.specs.List.Sorted.{IsStrictlySortedBy}
use Rattle.std.proofs.lemmas.List.Kept.{IsStrictlySortedBy-filter}
use Rattle.abstract_syntax.specs.Values.{set_of, value_trees}
use Rattle.abstract_syntax.specs.ValueOrder.{value_order}
use Rattle.value_operators.specs.Members.{has}
use Rattle.value_operators.specs.Outcomes.{Gives, sized}
use Rattle.value_operators.proofs.Lists.{set_filtered}
use Rattle.set_ops.proofs.joining.difference.Goals as goal

pub new-requires : goal.new-requires
new-requires c =
    subst (IsStrictlySortedBy value_order) (sym c.in_ok-members.ensures)
    (IsStrictlySortedBy-filter value_order (λ v. not (has c.args.b.now v)) c.args.a.now c.requires.0)

pub returns : goal.returns
returns c =
    subst (λ v. Gives c.sized.result (sized v))
    (c.new.ensures ∙ ap (λ vs. set_of (value_trees vs)) c.in_ok-members.ensures ∙ sym (set_filtered (λ v. not (has c.args.b.now v)) c.args.a.now c.requires.0))
    c.sized.ensures
