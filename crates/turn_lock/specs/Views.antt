-- What a pass knows of its lock, in words: its turn number, its own notes and where they stand.
use Rattle.std.specs.Prelude.{◌≡◌, ℕ, ◌+◌, ◌<◌, List, [], ◌∷◌, ◌++◌, slice_get, Some, All, AllPairs}
use Rattle.turn_lock.specs.declared.view.Stage.{Stage}
use Rattle.turn_lock.specs.declared.view.Stage.TheVariants.{Idle, Waiting, Served}
use Rattle.turn_lock.specs.declared.view.View.{View}
use Rattle.pass_sums.specs.Counting.{total, same}

-- 1 where the stage has the turn number x, and else 0
abbrev pub at_number : ℕ → Stage → ℕ
at_number x Idle = 0
at_number x (Waiting n) = same x n
at_number x (Served n) = same x n

-- 1 where the turn is taken, and else 0
abbrev pub is_taken : Stage → ℕ
is_taken Idle = 0
is_taken (Waiting n) = 0
is_taken (Served n) = 1

module _ {E : Type 0} where
  -- how many of the notes have the place x
  abbrev pub times : ℕ → List (ℕ × E) → ℕ
  times x own = total (λ p. same x p.0) own

  -- f of each note, added up
  abbrev pub weight : (E → ℕ) → List (ℕ × E) → ℕ
  weight f own = total (λ p. f p.1) own

  -- each note stands in the list at its place, counted from `start`
  abbrev pub Stand : ℕ → List E → List (ℕ × E) → Type 0
  Stand start list [] = Unit {0}
  Stand start list (p ∷ ps) = (slice_get list (start + p.0) ≡ Some p.1) × Stand start list ps

  -- every place is below n
  abbrev pub AllBelow : ℕ → List (ℕ × E) → Type 0
  AllBelow n own = All (λ p. p.0 < n) own

  -- the place of each note is below those of the later ones
  abbrev pub IsRising : List (ℕ × E) → Type 0
  IsRising own = AllPairs (λ p q. p.0 < q.0) own

  -- a view for this many passes that did nothing yet, of a lock over a value with this list
  abbrev pub fresh : ℕ → List E → View E
  fresh passes list = record { stage = Idle; passes = passes; draws = 0; base = list; seen = list; own = [] }

  -- a view that stands for no pass any more
  abbrev pub blank : View E
  blank = fresh 0 []

  -- the view for the passes of both
  abbrev pub pooled : View E → View E → View E
  pooled v w = record {
    stage = Idle;
    passes = v.passes + w.passes;
    draws = v.draws + w.draws;
    base = v.base;
    seen = v.seen;
    own = w.own ++ v.own;
  }
