-- What clauses say of a source and its passes.
use Rattle.std.specs.Prelude.{◌≡◌, ℕ, ◌+◌, List, [], ◌∷◌, ◌++◌, length, All}
use Rattle.atomic_table.specs.Seated.{TableId}
use Rattle.stamp_source.specs.declared.rule.Opening.{Opening}
use Rattle.stamp_source.specs.declared.pass.StampPass.{StampPass}
use Rattle.stamp_source.specs.declared.source.StampSource.{StampSource}
use Rattle.pass_sums.specs.Counting.{total, below}
use Rattle.stamp_source.specs.Numbers.{times, IsRising}

abbrev pub source_id : StampSource → TableId
source_id source = source.board.shared.table_id

-- what the source was told when it was made
abbrev pub about : StampSource → Opening
about source = source.board.shared.key

-- the numbers that the pass drew, in order
abbrev pub numbers : StampPass → List ℕ
numbers pass = pass.seat.me.0.numbers

-- what the source of the pass was told
abbrev pub about_pass : StampPass → Opening
about_pass pass = pass.seat.me.0.about

abbrev pub draws_left : StampPass → ℕ
draws_left pass = pass.left

abbrev pub IsAt : TableId → StampPass → Type 0
IsAt id pass = (pass.seat.table_id ≡ id) × (pass.seat.me.1 ≡ [])

-- a pass of this source
abbrev pub IsPassOf : StampSource → StampPass → Type 0
IsPassOf source pass = IsAt (source_id source) pass

-- a pass of this table that drew nothing yet
pub record IsNewPass (id : TableId) (told : Opening) (pass : StampPass) : Type 0 where
  pub at : IsAt id pass
  pub about_is : about_pass pass ≡ told
  pub left : draws_left pass ≡ told.each
  pub none_drawn : numbers pass ≡ []

-- all passes of this source
abbrev pub AreAll : StampSource → List StampPass → Type 0
AreAll source passes = All (IsPassOf source) passes × (length passes ≡ (about source).passes)

-- the numbers of all passes, one pass behind the other
abbrev pub all_numbers : List StampPass → List ℕ
all_numbers [] = []
all_numbers (p ∷ ps) = numbers p ++ all_numbers ps

-- each number from the first up to below some next one was drawn by one pass, once, and no other number was
pub record DrewEachOnce (first : ℕ) (passes : List StampPass) : Type 0 where
  pub next : ℕ
  pub numbers_are : (x : ℕ) → total (λ p. times x (numbers p)) passes + below first x ≡ below next x
  -- each pass's numbers rise
  pub rise : All (λ p. IsRising (numbers p)) passes
