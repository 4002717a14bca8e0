-- What clauses say of a pass and of its lock.
use Rattle.std.specs.Prelude.{◌≡◌, ℕ, ◌^◌, List, [], ◌∷◌, ◌++◌, length, None, All}
use mathlib.Core.List.{IsPrefix}
use Rattle.atomic_table.specs.Seated.{TableId}
use Rattle.turn_lock.specs.declared.storied.Storied.{Ghosts}
use Rattle.turn_lock.specs.declared.view.Stage.TheVariants.{Idle, Served}
use Rattle.turn_lock.specs.declared.pass.TurnPass.{TurnPass}
use Rattle.turn_lock.specs.declared.lock.TurnLock.{TurnLock}
use Rattle.turn_lock.specs.Views.{Stand, IsRising}

module _ {V E : Type 0} where
  abbrev pub lock_id : TurnLock V E → TableId
  lock_id lock = lock.board.shared.table_id

  -- how many passes the lock was made with
  abbrev pub lock_passes : TurnLock V E → ℕ
  lock_passes lock = lock.board.shared.key.passes

  -- the list of the value that the lock was made with
  abbrev pub first_story : (V → List E) → TurnLock V E → List E
  first_story story lock = story lock.board.shared.key.first.value

module _ {V E : Type 0} {g : Ghosts V E} where
  -- how many turns the pass may still take
  abbrev pub turns_left : TurnPass V E g → ℕ
  turns_left pass = pass.left

  -- the value's list when the lock was made
  abbrev pub origin : TurnPass V E g → List E
  origin pass = pass.seat.me.0.base

  -- the value's list when the pass saw it last
  abbrev pub seen : TurnPass V E g → List E
  seen pass = pass.seat.me.0.seen

  -- the pass's own notes, each with its place behind the list of `origin`
  abbrev pub own : TurnPass V E g → List (ℕ × E)
  own pass = pass.seat.me.0.own

  abbrev pub IsAt : TableId → TurnPass V E g → Type 0
  IsAt id pass = pass.seat.table_id ≡ id

  -- the pass has no turn
  abbrev pub IsIdle : TurnPass V E g → Type 0
  IsIdle pass = (pass.seat.me.0.stage ≡ Idle) × (pass.seat.me.1 ≡ [])

  -- the pass has a turn, and the value is in hand
  abbrev pub IsHolding : TurnPass V E g → Type 0
  IsHolding pass = ((x : ℕ) × (pass.seat.me.0.stage ≡ Served x)) × (pass.seat.me.1 ≡ (0, None) ∷ [])

  -- a pass of this lock that has no turn
  abbrev pub IsPassOf : TurnLock V E → TurnPass V E g → Type 0
  IsPassOf lock pass = IsAt (lock_id lock) pass × IsIdle pass

  -- all passes of this lock, and none has a turn
  abbrev pub AreAll : TurnLock V E → List (TurnPass V E g) → Type 0
  AreAll lock passes = All (IsPassOf lock) passes × (length passes ≡ lock_passes lock)

  -- a pass of this table that took no turn yet, of a lock over a value with this list
  pub record IsNewPass (id : TableId) (list : List E) (pass : TurnPass V E g) : Type 0 where
    pub at : IsAt id pass
    pub idle : IsIdle pass
    pub left : turns_left pass ≡ 2 ^ 40
    pub origin_is : origin pass ≡ list
    pub seen_is : seen pass ≡ list
    pub own_none : own pass ≡ []

  -- the notes of all passes, one pass behind the other
  abbrev pub all_own : List (TurnPass V E g) → List (ℕ × E)
  all_own [] = []
  all_own (p ∷ ps) = own p ++ all_own ps

  -- what a pass may rely on of the value that its turn gives it
  pub record Gives (story : V → List E) (adds_up : V → Type 0) (pass : TurnPass V E g) (value : V) : Type 0 where
    pub sums : adds_up value
    -- the list begins with the one that this pass saw last, and so with the one that it gave back last
    pub goes_on : IsPrefix (seen pass) (story value)
    pub from_new : IsPrefix (origin pass) (story value)
    -- each of the pass's own notes stands in it, at its place, and these places rise
    pub own_stand : Stand (length (origin pass)) (story value) (own pass)
    pub own_rise : IsRising (own pass)
