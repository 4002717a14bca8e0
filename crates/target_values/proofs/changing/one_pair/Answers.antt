use Rattle.std.proofs.Common.{◌≡◌, List, [], ◌∷◌, ◌++◌, ap, sym, ◌∙◌, subst}
use Rattle.std.specs.List.Sorted.{IsStrictlySortedBy}
use Rattle.abstract_syntax.specs.ValueSets.{Entry, key_order}
use Rattle.target_values.proofs.Steps.{pair_rises}
use Rattle.target_values.proofs.changing.one_pair.Goals as goal

pub new-requires : goal.new-requires
new-requires c =
    let is : c.push.new.self.items ≡ (c.in_ok-key.key, c.args.value) ∷ [] =
    c.in_ok-push.ensures.items ∙ ap (λ (ps : List Entry). ps ++ (c.in_ok-key.key, c.args.value) ∷ []) c.new-pairs.ensures.items in
    subst (IsStrictlySortedBy key_order) (sym is) (pair_rises (c.in_ok-key.key, c.args.value))
