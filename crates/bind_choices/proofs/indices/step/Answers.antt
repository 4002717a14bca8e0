use Rattle.std.proofs.Common.{◌-◌, ◌<◌, length, arith, rules}
use Rattle.bind_choices.proofs.Turns.{as_many, index_read, turned_back, turned_on, stand_on}
use Rattle.bind_choices.proofs.indices.step.Goals as goal

pub bounds-lists-place : goal.bounds-lists-place
bounds-lists-place c = omega (arith, as_many c.args.lists.now c.loop-place.indices c.loop-place.invariant.stand)

pub offset_bounds-lists-place : goal.offset_bounds-lists-place
offset_bounds-lists-place c =
    let h : c.loop-place.place - 1 < length c.args.lists.now = omega (arith, as_many c.args.lists.now c.loop-place.indices c.loop-place.invariant.stand) in
    search rules

pub overflow_add-next : goal.overflow_add-next
overflow_add-next c =
    let h = index_read c.args.lists.now c.loop-place.indices (c.loop-place.place - 1) c.index-lists-place.result c.loop-place.invariant.stand (omega arith) c.index-lists-place.is in
    omega arith

pub returns-then-next-count-clause-stand : goal.returns-then-next-count-clause-stand
returns-then-next-count-clause-stand c =
    stand_on _ c.args.indices.now _ c.loop-place.place _ c.index-lists-place.result c.loop-place.invariant (omega arith) (omega arith) c.index-lists-place.is (omega arith)

pub returns-then-next-count-clause-behind : goal.returns-then-next-count-clause-behind
returns-then-next-count-clause-behind c =
    turned_on _ _ _ c.loop-place.place _ c.index-lists-place.result c.loop-place.invariant (omega arith) (omega arith) c.index-lists-place.is (omega arith)

pub loop-place-preserved : goal.loop-place-preserved
loop-place-preserved c =
    turned_back _ _ _ c.loop-place.place _ c.index-lists-place.result c.loop-place.invariant (omega arith) (omega arith) c.index-lists-place.is (omega arith)
