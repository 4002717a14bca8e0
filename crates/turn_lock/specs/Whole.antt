-- The whole list of a lock: the list at `new`, and behind it the notes of all passes, each once.
use Rattle.std.specs.Prelude.{◌≡◌, ℕ, List, ◌++◌, length, All}
use Rattle.turn_lock.specs.declared.storied.Storied.{Ghosts}
use Rattle.turn_lock.specs.declared.pass.TurnPass.{TurnPass}
use Rattle.pass_sums.specs.Counting.{total, below}
use Rattle.turn_lock.specs.Views.{times, weight, Stand, IsRising}
use Rattle.turn_lock.specs.Passes.{own}

-- the notes of one pass, or of all joined, are the whole list behind the first
pub record IsWhole {E : Type 0} (first : List E) (own : List (ℕ × E)) (list : List E) : Type 0 where
  pub noted : List E
  pub list_is : list ≡ first ++ noted
  pub own_stand : Stand (length first) list own
  pub places_are : (x : ℕ) → times x own ≡ below (length noted) x
  pub weights_are : (f : E → ℕ) → weight f own ≡ total f noted

module _ {V E : Type 0} {g : Ghosts V E} where
  pub record HasAllNotes (first : List E) (passes : List (TurnPass V E g)) (list : List E) : Type 0 where
    pub noted : List E
    pub list_is : list ≡ first ++ noted
    -- each note of each pass stands in the list at its place, and the places of one pass rise
    pub own_stand : All (λ p. Stand (length first) list (own p)) passes
    pub own_rise : All (λ p. IsRising (own p)) passes
    -- each place behind the first list is that of one note of one pass
    pub places_are : (x : ℕ) → total (λ p. times x (own p)) passes ≡ below (length noted) x
    -- whatever the notes count for, what all passes noted is what was added to the list
    pub weights_are : (f : E → ℕ) → total (λ p. weight f (own p)) passes ≡ total f noted
