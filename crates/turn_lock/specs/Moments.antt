-- What holds of a lock at one moment, between any two steps of its threads.
use Rattle.std.specs.Prelude.{◌≡◌, ◌≢◌, ℕ, List, [], ◌∷◌, ◌++◌, length, slice_index, Option, Some}
use mathlib.Core.List.{IsPrefix}
use mathlib.Core.Option.{some}
use lib.ListN.{get_elem?}
use Rattle.atomic_table.specs.Table.{State}
use Rattle.turn_lock.specs.declared.view.Stage.TheVariants.{Served}
use Rattle.turn_lock.specs.declared.view.View.{View}
use Rattle.pass_sums.specs.Counting.{total, below}
use Rattle.turn_lock.specs.Views.{times, weight, Stand}

module _ {V E : Type 0} where
  -- no pass has a turn
  abbrev pub IsFree : State (Option V) (View E) → Type 0
  IsFree s = (j x : ℕ) (v : View E) → get_elem? s.views j ≡ some v → v.stage ≢ Served x

  -- the value is in its slot, and its list has the first list and then each note of each pass, once
  pub record HasEveryNote (story : V → List E) (adds_up : V → Type 0) (first : List E) (s : State (Option V) (View E)) : Type 0 where
    pub value : V
    pub slot_is : s.homes ≡ some (Some value) ∷ []
    pub sums : adds_up value
    pub noted : List E
    pub story_is : story value ≡ first ++ noted
    -- the third word counts the notes
    pub count_is : slice_index s.words 2 ≡ length noted
    -- each note stands at its place, which is how many were made before it, and no two have one place
    pub own_stand : (j : ℕ) (v : View E) → get_elem? s.views j ≡ some v → Stand (length first) (story value) v.own
    pub places_are : (x : ℕ) → total (λ v. times x v.own) s.views ≡ below (length noted) x
    pub weights_are : (f : E → ℕ) → total (λ v. weight f v.own) s.views ≡ total f noted

  -- a pass that has a turn has the number in the second word, and no two passes have turns
  pub record HasOwnNumber (s : State (Option V) (View E)) : Type 0 where
    pub number_is : (j x : ℕ) (v : View E) → get_elem? s.views j ≡ some v → v.stage ≡ Served x → slice_index s.words 1 ≡ x
    pub one_pass : (j k x y : ℕ) (v w : View E) → get_elem? s.views j ≡ some v → get_elem? s.views k ≡ some w
        → v.stage ≡ Served x → w.stage ≡ Served y → j ≡ k

  -- there is one list, of which each pass saw a beginning, and in which its own notes stand
  pub record KnowsABeginning (first : List E) (s : State (Option V) (View E)) : Type 0 where
    pub noted : List E
    pub count_is : slice_index s.words 2 ≡ length noted
    pub seen_is : (j : ℕ) (v : View E) → get_elem? s.views j ≡ some v → IsPrefix v.seen (first ++ noted)
    pub own_stand : (j : ℕ) (v : View E) → get_elem? s.views j ≡ some v → Stand (length first) (first ++ noted) v.own
    -- whoever has the turn has seen it whole
    pub taken_is : (j x : ℕ) (v : View E) → get_elem? s.views j ≡ some v → v.stage ≡ Served x → v.seen ≡ first ++ noted
