-- What clauses say of a turn that is taken.
use Rattle.std.specs.Prelude.{◌≡◌, ℕ, ◌+◌, List, [], ◌∷◌, ◌++◌, length}
use base.Fml.{Fml}
use denote.RattleType.{RattleType}
use denote.Ref.{MutBor}
use denote.Follow.{follows}
use mir.Syntax.{named}
use Rattle.turn_lock.specs.declared.storied.Storied.{Ghosts}
use Rattle.turn_lock.specs.declared.pass.TurnPass.{TurnPass}
use Rattle.turn_lock.specs.declared.held.TurnHeld.{TurnHeld}
use Rattle.turn_lock.specs.contracts.held.TurnHeld.{the_row}
use Rattle.turn_lock.specs.Views.{AllBelow}
use Rattle.turn_lock.specs.Passes.{lock_id, IsAt, IsHolding, seen, own, origin}

-- the list goes on by one entry
abbrev pub IsOneLonger : {E : Type 0} → List E → List E → Type 0
IsOneLonger {E} before list = (e : E) × (list ≡ before ++ e ∷ [])

module _ {V E : Type 0} {g : Ghosts V E} where
  -- the turn is of a pass of its lock, and has the value
  abbrev pub IsTurn : TurnHeld V E g → Type 0
  IsTurn held = IsAt (lock_id held.lock.now) held.pass.now × IsHolding held.pass.now

  -- the entry by which the list is longer stands at the place k behind the list at `new`, above the places of all own notes
  -- before, and is an own note now
  abbrev pub IsNoted : List E → TurnPass V E g → TurnPass V E g → Type 0
  IsNoted list before after = (k : ℕ) × (length (seen before) ≡ length (origin before) + k) × AllBelow k (own before)
      × ((e : E) → list ≡ seen before ++ e ∷ [] → own after ≡ own before ++ (k, e) ∷ [])

  abbrev pub with_value : TurnHeld V E g → V → TurnHeld V E g
  with_value held value = record { lock = held.lock; pass = held.pass; hand = value }

-- the turn has the value that is written through the result
abbrev pub LendsValue : (R E : RattleType) (g : Ghosts R.Denot E.Denot) → MutBor (TurnHeld R.Denot E.Denot g) → MutBor R.Denot → Fml
LendsValue R E g held result =
    follows (the_row (record { mir = named 1; lft = [] }) R E g) R held.ghost_name result.ghost_name (with_value held.now)
