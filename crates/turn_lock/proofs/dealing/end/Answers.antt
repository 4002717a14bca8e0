use Rattle.std.proofs.Common.{◌≡◌, Some, None, sym, ◌∙◌, subst}
use mathlib.Core.Option.{some-injective}
use Rattle.turn_lock.specs.Whole.{IsWhole}
use Rattle.turn_lock.proofs.Joining.{ends}
use Rattle.turn_lock.proofs.dealing.end.Goals as goal

same_inside : {V : Type 0} (v w : V) → Some v ≡ Some w → v ≡ w
same_inside v w e = cc

pub unreachable-requires : goal.unreachable-requires
unreachable-requires g c =
    let ended = ends g.V.Storied.story g.V.Storied.adds_up _ _ _ _ _ _ c.requires.seat.0 c.requires.seat.2 c.close_with-closed.ensures.values.2 in
    let found = some-injective (Some ended.value) c.take-found.result (sym ended.slot_is ∙ c.take-found.ensures.value) in
    let clash : Some ended.value ≡ None = found ∙ c.in_default.is in cc

pub returns-clause-sums : goal.returns-clause-sums
returns-clause-sums g c =
    let ended = ends g.V.Storied.story g.V.Storied.adds_up _ _ _ _ _ _ c.requires.seat.0 c.requires.seat.2 c.close_with-closed.ensures.values.2 in
    let found = some-injective (Some ended.value) c.take-found.result (sym ended.slot_is ∙ c.take-found.ensures.value) in
    subst g.V.Storied.adds_up (same_inside ended.value c.in-Some.value (found ∙ c.in-Some.is)) ended.sums

pub returns-clause-whole : goal.returns-clause-whole
returns-clause-whole g c =
    let ended = ends g.V.Storied.story g.V.Storied.adds_up _ _ _ _ _ _ c.requires.seat.0 c.requires.seat.2 c.close_with-closed.ensures.values.2 in
    let found = some-injective (Some ended.value) c.take-found.result (sym ended.slot_is ∙ c.take-found.ensures.value) in
    subst (λ value. IsWhole (g.V.Storied.story c.args.board.shared.key.first.value) c.args.seat.me.0.own (g.V.Storied.story value))
    (same_inside ended.value c.in-Some.value (found ∙ c.in-Some.is)) ended.whole
