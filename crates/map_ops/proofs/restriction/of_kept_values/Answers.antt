use Rattle.std.proofs.Common.{ap, sym, ◌∙◌, subst}
use Rattle.std.specs.List.Sorted.{IsStrictlySortedBy}
use Rattle.std.proofs.lemmas.List.Kept.{IsStrictlySortedBy-filter}
use Rattle.abstract_syntax.specs.Values.{map_of, pair_trees}
use Rattle.abstract_syntax.specs.ValueSets.{Entry, key_order}
use Rattle.value_operators.specs.Members.{has}
use Rattle.value_operators.specs.Outcomes.{Gives, sized}
use Rattle.value_operators.proofs.Lists.{map_filtered}
use Rattle.map_ops.proofs.restriction.of_kept_values.Goals as goal

pub new-requires : goal.new-requires
new-requires c =
    subst (IsStrictlySortedBy key_order) (sym c.in_ok-kept.ensures)
    (IsStrictlySortedBy-filter key_order (λ (p : Entry). has c.args.members.now p.1) c.args.pairs.now c.requires.1)

pub returns : goal.returns
returns c =
    subst (λ v. Gives c.sized.result (sized v))
    (c.new.ensures ∙ ap (λ ps. map_of (pair_trees ps)) c.in_ok-kept.ensures ∙ sym (map_filtered (λ (p : Entry). has c.args.members.now p.1) c.args.pairs.now c.requires.1))
    c.sized.ensures
