-- What each step tells the pass that makes it: of what it knew and held before, of the number found, and of what it knows and holds then.
use Rattle.std.specs.Prelude.{◌≡◌, ◌≢◌, ℕ, ◌+◌, List, [], ◌∷◌, ◌++◌, length, Option, Some}
use mathlib.Core.List.{IsPrefix}
use Rattle.atomic_table.specs.Table.{Me, Step}
use Rattle.turn_lock.specs.declared.view.Stage.TheVariants.{Idle, Waiting, Served}
use Rattle.turn_lock.specs.declared.view.View.{View}
use Rattle.turn_lock.specs.Views.{Stand, AllBelow}

abbrev At : Type 0 → Type 0
At V = Step (Option V)

-- what a pass knows, and the slots that it holds
abbrev pub Known : Type 0 → Type 0 → Type 0
Known V E = Me (Option V) (View E)

module _ {V E : Type 0} where
  -- the pass has the number that it found
  abbrev pub Draws : At V → Known V E → ℕ → Known V E → Type 0
  Draws st m n m' = m' ≡ (record m.0 { stage = Waiting n; draws = m.0.draws + 1 }, m.1)

  -- the pass with the number x has the value, whose list goes on from what it saw, and in which its own notes stand
  pub record Enters (story : V → List E) (adds_up : V → Type 0) (x : ℕ) (m m' : Known V E) : Type 0 where
    pub value : V
    pub now_is : m' ≡ (record m.0 { stage = Served x; seen = story value }, (0, Some value) ∷ [])
    pub sums : adds_up value
    pub goes_on : IsPrefix m.0.seen (story value)
    pub from_base : IsPrefix m.0.base (story value)
    pub own_stand : Stand (length m.0.base) (story value) m.0.own

  -- the pass enters where its own number is served, and else nothing changes
  abbrev pub Looks : (V → List E) → (V → Type 0) → At V → Known V E → ℕ → Known V E → Type 0
  Looks story adds_up st m n m' = (x : ℕ) → m.0.stage ≡ Waiting x → (n ≢ x → m' ≡ m) × (n ≡ x → Enters story adds_up x m m')

  -- the entry is added to what was seen, at the place that was found, which is above those of all own notes before
  abbrev pub Notes : List E → At V → Known V E → ℕ → Known V E → Type 0
  Notes added st m n m' = (e : E) → added ≡ e ∷ []
      → (m' ≡ (record m.0 { seen = m.0.seen ++ e ∷ []; own = m.0.own ++ (n, e) ∷ [] }, m.1))
      × (length m.0.seen ≡ length m.0.base + n) × AllBelow n m.0.own

  -- the pass has no number, and gave the value back
  abbrev pub Serves : At V → Known V E → ℕ → Known V E → Type 0
  Serves st m n m' = m' ≡ (record m.0 { stage = Idle }, [])
