use Rattle.std.proofs.Common.{◌≡◌, ℕ, ◌+◌, ◌∷◌, [], ◌++◌, ap, ◌∙◌, sym, subst, arith}
use Rattle.turn_lock.specs.Views.{IsRising}
use Rattle.turn_lock.proofs.Places.{added_is, rising_push}
use Rattle.turn_lock.proofs.held.TurnHeld.note.Goals as goal

same_place : (m n k l : ℕ) → m ≡ n + k → m ≡ n + l → k ≡ l
same_place m n k l a b = omega arith

pub count_note-requires-clause-entry : goal.count_note-requires-clause-entry
count_note-requires-clause-entry g c = let entry = c.requires.entry in (entry.0, added_is _ _ entry.0 entry.1)

pub invariant_of-pass : goal.invariant_of-pass
invariant_of-pass g c =
    let entry = c.requires.entry in
    let pass = c.args.self.now.pass.now in
    let told = c.count_note.ensures.noted entry.0 (added_is _ _ entry.0 entry.1) in
    let view = ap (λ m. m.0) told.3 in record {
      alone = ap (λ v. v.passes) view ∙ pass.alone;
      counted = ap (λ v. pass.left + v.draws) view ∙ pass.counted;
      rising = subst IsRising (sym (ap (λ v. v.own) view)) (rising_push pass.seat.me.0.own told.0 entry.0 pass.rising told.2);
    }

pub returns-clause-turn : goal.returns-clause-turn
returns-clause-turn g c =
    let entry = c.requires.entry in
    let told = c.count_note.ensures.noted entry.0 (added_is _ _ entry.0 entry.1) in
    let turn = c.requires.turn in
    let stage = ap (λ m. m.0.stage) told.3 in
    (c.count_note.ensures.board ∙ turn.0, ((turn.1.0.0, stage ∙ turn.1.0.1), ap (λ m. m.1) told.3 ∙ turn.1.1))

pub returns-clause-origin : goal.returns-clause-origin
returns-clause-origin g c =
    let entry = c.requires.entry in
    let told = c.count_note.ensures.noted entry.0 (added_is _ _ entry.0 entry.1) in ap (λ m. m.0.base) told.3

pub returns-clause-seen : goal.returns-clause-seen
returns-clause-seen g c =
    let entry = c.requires.entry in
    let told = c.count_note.ensures.noted entry.0 (added_is _ _ entry.0 entry.1) in ap (λ m. m.0.seen) told.3 ∙ sym entry.1

pub returns-clause-noted : goal.returns-clause-noted
returns-clause-noted g c =
    let entry = c.requires.entry in
    let told = c.count_note.ensures.noted entry.0 (added_is _ _ entry.0 entry.1) in (
      told.0,
      told.1,
      told.2,
      λ e is.
          let again = c.count_note.ensures.noted e (added_is _ _ e is) in
          ap (λ m. m.0.own) again.3 ∙ ap (λ k. c.args.self.now.pass.now.seat.me.0.own ++ (k, e) ∷ []) (same_place _ _ _ _ again.1 told.1),
    )
