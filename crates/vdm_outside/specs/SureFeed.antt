-- What a source that never fails is.
use Rattle.std.specs.Prelude.{ℕ, List, drop}
use Rattle.vdm_outside.specs.Counts.{raised}

-- the bytes that are left, and how many reads there were
pub record SureFeed : Type 0 where
  pub left : List ℕ
  pub reads : ℕ

-- after a call that moved n bytes
abbrev pub after_sure_read : SureFeed → ℕ → SureFeed
after_sure_read feed n = record { left = drop n feed.left; reads = raised feed.reads }
