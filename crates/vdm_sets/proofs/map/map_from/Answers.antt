use Rattle.std.proofs.Common.{◌≡◌, List, inl, inr, ap, sym, ◌∙◌, subst, true≢false}
use Rattle.std.proofs.lemmas.Result.{IfOk-weaker}
use Rattle.std.specs.List.Sorted.{IsStrictlySortedBy}
use Rattle.abstract_syntax.specs.Values.{map_of, pair_trees}
use Rattle.abstract_syntax.specs.Rising.{rising}
use Rattle.abstract_syntax.proofs.RisingLaws.{rising_rises, rising_keeps}
use Rattle.abstract_syntax.specs.ValueSets.{Entry, pair_order, key_order, HasConflict, IsWithinLimits, IsTooLarge}
use Rattle.abstract_syntax.proofs.MapLaws.{pair_order_total, pair_same, conflict_moves, map_rises}
use Rattle.vdm_sets.proofs.map.map_from.Goals as goal

in_order : (xs ys : List Entry) → ys ≡ rising pair_order xs → IsStrictlySortedBy pair_order ys
in_order xs ys e = subst (IsStrictlySortedBy pair_order) (sym e) (rising_rises pair_order_total pair_same xs)

-- a conflict of the pairs is one of the list in order, and back
in_given : (xs ys : List Entry) → ys ≡ rising pair_order xs → HasConflict ys → HasConflict xs
in_given xs ys e h = conflict_moves (rising pair_order xs) xs (λ p. (rising_keeps pair_order_total pair_same xs p).0) (subst HasConflict e h)

in_risen : (xs ys : List Entry) → ys ≡ rising pair_order xs → HasConflict xs → HasConflict ys
in_risen xs ys e h = subst HasConflict (sym e) (conflict_moves xs (rising pair_order xs) (λ p. (rising_keeps pair_order_total pair_same xs p).1) h)

pub has_conflict-requires : goal.has_conflict-requires
has_conflict-requires c = in_order c.args.pairs _ (c.as_slice.ensures.value ∙ c.in_ok-pairs.ensures ∙ ap (rising pair_order) c.into_vec.ensures)

pub returns-then-has_conflict-clause-refused : goal.returns-then-has_conflict-clause-refused
returns-then-has_conflict-clause-refused c = λ fault e. inl (
  cc,
  in_given c.args.pairs _ (c.as_slice.ensures.value ∙ c.in_ok-pairs.ensures ∙ ap (rising pair_order) c.into_vec.ensures) (c.has_conflict.ensures.0 c.if-has_conflict.true),
)

-- where the list in order has no conflict, its keys rise
rises_by_key : (xs ys : List Entry) → ys ≡ rising pair_order xs → (HasConflict ys → ⊥) → IsStrictlySortedBy key_order ys
rises_by_key xs ys e f = subst (IsStrictlySortedBy key_order) (sym e) (map_rises xs (λ h. f (in_risen xs ys e h)))

pub new-requires : goal.new-requires
new-requires c =
    rises_by_key c.args.pairs _ (c.in_ok-pairs.ensures ∙ ap (rising pair_order) c.into_vec.ensures)
    (λ h. true≢false (sym (c.has_conflict.ensures.1 (subst HasConflict (sym c.as_slice.ensures.value) h)) ∙ c.if-has_conflict.false))

pub returns-clause-made : goal.returns-clause-made
returns-clause-made c =
    let risen = c.in_ok-pairs.ensures ∙ ap (rising pair_order) c.into_vec.ensures in
    IfOk-weaker c.within_limits.result _ _ (λ v w. (
      w.0 ∙ c.new.ensures ∙ ap (λ ps. map_of (pair_trees ps)) risen,
      λ h. true≢false (sym (c.has_conflict.ensures.1 (in_risen c.args.pairs _ (c.as_slice.ensures.value ∙ risen) h)) ∙ c.if-has_conflict.false),
      subst IsWithinLimits (sym w.0) w.1,
    )) c.within_limits.ensures.made

pub returns-clause-refused : goal.returns-clause-refused
returns-clause-refused c =
    let risen = c.in_ok-pairs.ensures ∙ ap (rising pair_order) c.into_vec.ensures in
    λ fault e. inr (
      (c.within_limits.ensures.refused fault e).0,
      λ h. true≢false (sym (c.has_conflict.ensures.1 (in_risen c.args.pairs _ (c.as_slice.ensures.value ∙ risen) h)) ∙ c.if-has_conflict.false),
      subst IsTooLarge (c.new.ensures ∙ ap (λ ps. map_of (pair_trees ps)) risen) (c.within_limits.ensures.refused fault e).1,
    )
