use Rattle.std.proofs.Common.{ap, sym, ◌∙◌, subst}
use Rattle.std.specs.List.Sorted.{IsStrictlySortedBy}
use Rattle.abstract_syntax.specs.Values.{set_of, value_trees}
use Rattle.abstract_syntax.specs.ValueOrder.{value_order}
use Rattle.value_operators.specs.Outcomes.{Gives, sized}
use Rattle.map_ops.proofs.Keys.{keys_rise, domain_is}
use Rattle.map_ops.proofs.projection.domain.Goals as goal

pub new-requires : goal.new-requires
new-requires c = subst (IsStrictlySortedBy value_order) (sym c.in_ok-keys.ensures) (keys_rise c.args.pairs.now c.requires)

pub returns : goal.returns
returns c =
    subst (λ v. Gives c.sized.result (sized v))
    (c.new.ensures ∙ ap (λ vs. set_of (value_trees vs)) c.in_ok-keys.ensures ∙ sym (domain_is c.args.pairs.now c.requires))
    c.sized.ensures
