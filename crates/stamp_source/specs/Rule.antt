-- What holds of a source between any two draws: the numbers of all passes are those from the first up to below the word, each once.
use Rattle.std.specs.Prelude.{◌≡◌, ℕ, ◌+◌, ◌*◌, ◌^◌, ◌<◌, ◌≤◌, List, [], ◌∷◌, ◌++◌, length}
use mathlib.Core.Option.{some}
use lib.ListN.{get_elem?}
use Rattle.atomic_table.specs.Table.{State, Me, Step}
use Rattle.stamp_source.specs.declared.rule.Drawn.{Drawn}
use Rattle.stamp_source.specs.declared.rule.Opening.{Opening}
use Rattle.pass_sums.specs.Counting.{total, below}
use Rattle.stamp_source.specs.Numbers.{times, AllBelow}

abbrev pub drawn : Opening → ℕ → List ℕ → Drawn
drawn about passes numbers = record { passes = passes; numbers = numbers; about = about }

-- the view that stands for no pass any more
abbrev pub blank : Drawn
blank = drawn (record { first = 0; each = 0; passes = 0 }) 0 []

-- the view for the passes of both
abbrev pub pooled : Drawn → Drawn → Drawn
pooled v w = drawn v.about (v.passes + w.passes) (w.numbers ++ v.numbers)

-- a pass drew no more than its share, and nothing at or above the next number
pub record Fits (about : Opening) (next : ℕ) (v : Drawn) : Type 0 where
  pub about_is : 0 < v.passes → v.about ≡ about
  pub few : length v.numbers ≤ about.each * v.passes
  pub low : AllBelow next v.numbers
  pub spent_is : v.passes ≡ 0 → v.numbers ≡ []

pub record IsKept (about : Opening) (s : State (Unit {0}) Drawn) : Type 0 where
  pub next : ℕ
  pub words_are : s.words ≡ next ∷ []
  pub first_low : about.first ≤ 2 ^ 62
  pub each_low : about.each ≤ 2 ^ 40
  pub few : about.passes ≤ 16
  pub passes_are : total (λ v. v.passes) s.views ≡ about.passes
  pub count_is : about.first + total (λ v. length v.numbers) s.views ≡ next
  pub numbers_are : (x : ℕ) → total (λ v. times x v.numbers) s.views + below about.first x ≡ below next x
  pub each_fits : (j : ℕ) (v : Drawn) → get_elem? s.views j ≡ some v → Fits about next v

-- the number that was found is the pass's now, lies in the source's range, and is above all that the pass drew before
pub record Draws (st : Step (Unit {0})) (m : Me (Unit {0}) Drawn) (n : ℕ) (m' : Me (Unit {0}) Drawn) : Type 0 where
  pub now_is : m' ≡ (drawn m.0.about m.0.passes (m.0.numbers ++ n ∷ []), m.1)
  pub above : AllBelow n m.0.numbers
  pub from_first : m.0.about.first ≤ n
  pub below_end : n < m.0.about.first + m.0.about.each * m.0.about.passes
