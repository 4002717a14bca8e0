use Rattle.std.proofs.Common.{◌≡◌, ◌++◌, ◌∷◌, [], ap, sym, ◌∙◌, subst}
use Rattle.std.specs.List.Sorted.{IsStrictlySortedBy}
use Rattle.abstract_syntax.specs.Values.{set_of, value_trees}
use Rattle.abstract_syntax.specs.ValueOrder.{value_order}
use Rattle.abstract_syntax.specs.ValueSets.{set_value}
use Rattle.value_operators.proofs.Lists.{set_rising}
use Rattle.set_ops.proofs.Subsets.{mapped_more}
use Rattle.set_ops.proofs.powers.sets.Goals as goal

pub loop-list-preserved : goal.loop-list-preserved
loop-list-preserved c =
    let rises : IsStrictlySortedBy value_order c.list-item.result =
    subst (IsStrictlySortedBy value_order) (sym c.list-item.is) (c.requires c.loop-list.list-index c.list-item.result c.loop-list-test.true) in
    let made : c.new.result ≡ set_of (value_trees c.list-item.result) =
    c.new.ensures ∙ ap (λ vs. set_of (value_trees vs)) (c.into_vec.ensures ∙ c.in_ok-copy.ensures) in
    c.in_ok-push.ensures.items
    ∙ (λ i. c.loop-list.invariant i ++ (made ∙ sym (set_rising _ rises)) i ∷ [])
    ∙ sym (mapped_more set_value c.args.lists.now c.loop-list.list-index _ c.loop-list-test.true c.list-item.is)
