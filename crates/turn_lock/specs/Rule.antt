-- What holds of a lock between any two steps: of its three words, of its slot, and of what all passes know.
use Rattle.std.specs.Prelude.{◌≡◌, ◌⊎◌, ℕ, ◌+◌, ◌*◌, ◌^◌, ◌<◌, ◌≤◌, List, [], ◌∷◌, ◌++◌, length, Option, Some}
use mathlib.Core.List.{IsPrefix}
use mathlib.Core.Option.{none, some}
use mathlib.Core.Option as maybe
use lib.ListN.{get_elem?}
use Rattle.atomic_table.specs.Table.{State}
use Rattle.turn_lock.specs.declared.view.Stage.TheVariants.{Idle, Served}
use Rattle.turn_lock.specs.declared.view.View.{View}
use Rattle.pass_sums.specs.Counting.{total, below}
use Rattle.turn_lock.specs.Views.{at_number, is_taken, times, weight, Stand}

-- What a pass knows is so: `first` is the list at `new`, `noted` the notes since, and `now` the number that is served
pub record Fits {E : Type 0} (first noted : List E) (now : ℕ) (v : View E) : Type 0 where
  pub base_is : 0 < v.passes → v.base ≡ first
  pub seen_is : IsPrefix v.seen (first ++ noted)
  pub own_stand : Stand (length first) (first ++ noted) v.own
  pub few_draws : v.draws ≤ 2 ^ 40 * v.passes
  pub served_is : (x : ℕ) → v.stage ≡ Served x → (x ≡ now) × (v.seen ≡ first ++ noted)
  pub spent_is : v.passes ≡ 0 → (v.stage ≡ Idle) × (v.own ≡ [])

-- one turn is taken, and the value is out with it
pub record IsOut {V : Type 0} (homes : List (maybe.Option (Option V))) (turns : ℕ) : Type 0 where
  pub slot_is : homes ≡ none ∷ []
  pub taken : turns ≡ 1

module _ {V E : Type 0} (story : V → List E) (adds_up : V → Type 0) where
  -- no turn is taken: the value is in its slot, and stands for the list
  pub record AtHome (list : List E) (homes : List (maybe.Option (Option V))) (turns : ℕ) : Type 0 where
    pub value : V
    pub slot_is : homes ≡ some (Some value) ∷ []
    pub story_is : story value ≡ list
    pub sums : adds_up value
    pub free : turns ≡ 0

  pub record IsKept (passes : ℕ) (first : List E) (s : State (Option V) (View E)) : Type 0 where
    pub next : ℕ
    pub now : ℕ
    pub noted : List E
    pub words_are : s.words ≡ next ∷ now ∷ length noted ∷ []
    pub few : passes ≤ 16
    pub passes_are : total (λ v. v.passes) s.views ≡ passes
    pub draws_are : total (λ v. v.draws) s.views ≡ next
    -- the turn numbers of the views are different, and are those from `now` up to below `next`
    pub numbers_are : (x : ℕ) → total (λ v. at_number x v.stage) s.views + below now x ≡ below next x
    -- the places of all notes are different, and are those below the number of notes
    pub places_are : (x : ℕ) → total (λ v. times x v.own) s.views ≡ below (length noted) x
    pub weights_are : (f : E → ℕ) → total (λ v. weight f v.own) s.views ≡ total f noted
    pub each_fits : (j : ℕ) (v : View E) → get_elem? s.views j ≡ some v → Fits first noted now v
    pub spot : AtHome (first ++ noted) s.homes (total (λ v. is_taken v.stage) s.views)
        ⊎ IsOut s.homes (total (λ v. is_taken v.stage) s.views)
