-- What a source in memory is.
use Rattle.std.specs.Prelude.{ℕ, List, drop}
use Rattle.vdm_outside.specs.Counts.{raised}

-- the bytes that are left, how many a call moves at most, the numbers of the calls that fail, and two counts
pub record Feed : Type 0 where
  pub left : List ℕ
  pub piece : ℕ
  pub failing : List ℕ
  pub calls : ℕ
  pub faults : ℕ

-- one that was not called yet
abbrev pub fresh_feed : List ℕ → ℕ → List ℕ → Feed
fresh_feed bytes piece failing = record { left = bytes; piece = piece; failing = failing; calls = 0; faults = 0 }

-- after a call that moved n bytes
abbrev pub after_read : Feed → ℕ → Feed
after_read feed n = record feed { left = drop n feed.left; calls = raised feed.calls }

-- after a call that failed
abbrev pub after_failure : Feed → Feed
after_failure feed = record feed { calls = raised feed.calls; faults = raised feed.faults }
