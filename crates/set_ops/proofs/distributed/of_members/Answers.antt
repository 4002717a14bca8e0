use Rattle.std.proofs.Common.{map, ap, sym, ◌∙◌, subst}
use Rattle.std.specs.List.Sorted.{IsStrictlySortedBy}
use Rattle.std.proofs.lemmas.List.Kept.{IsStrictlySortedBy-filter}
use Rattle.abstract_syntax.specs.Values.{set_of, value_trees}
use Rattle.abstract_syntax.specs.ValueOrder.{value_order}
use Rattle.value_operators.specs.Outcomes.{Gives, sized}
use Rattle.value_operators.specs.Sets.{members_of, in_every}
use Rattle.value_operators.proofs.Lists.{set_filtered}
use Rattle.set_ops.proofs.distributed.of_members.Goals as goal

pub new-requires : goal.new-requires
new-requires c =
    subst (IsStrictlySortedBy value_order) (sym c.in_ok-kept.ensures)
    (IsStrictlySortedBy-filter value_order (in_every (map members_of c.args.sets.now)) c.args.members.now c.requires)

pub returns : goal.returns
returns c =
    subst (λ v. Gives c.sized.result (sized v))
    (c.new.ensures ∙ ap (λ vs. set_of (value_trees vs)) c.in_ok-kept.ensures ∙ sym (set_filtered (in_every (map members_of c.args.sets.now)) c.args.members.now c.requires))
    c.sized.ensures
