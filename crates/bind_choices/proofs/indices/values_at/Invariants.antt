use Rattle.std.proofs.Common.{map}
use Rattle.std.specs.Iterator.Adapters.{zip_first, zip_second}
use Rattle.std.specs.Slice.Iter.{iter_rest}
use Rattle.bind_choices.specs.Choices.{choice_at}
use Rattle.bind_choices.proofs.Picking.{Picks}
use Rattle.bind_choices.proofs.indices.values_at.Given as goal

abbrev pub invariant-loop-list : goal.invariant-loop-list
invariant-loop-list l =
    (goal.iterator-loop-list).can_next l.list-iterator ×
    (goal.iterator-loop-list).is_finite l.list-iterator ×
    Picks (choice_at l.lists l.indices) (map (λ v. v.now) l.values.items) (iter_rest (zip_first l.list-iterator)) (iter_rest (zip_second l.list-iterator))
