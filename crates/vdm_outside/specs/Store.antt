-- What a sink in memory is.
use Rattle.std.specs.Prelude.{◌≡◌, ◌<◌, ◌⊎◌, ◌-◌, ◌++◌, ℕ, List, [], length}
use Rattle.vdm_outside.specs.Counts.{raised}
use Rattle.vdm_outside.specs.Failing.{IsNextToFail}

-- the bytes that were written, room for how many more, how many a call moves at most, the numbers of the calls that fail, and two counts
pub record Store : Type 0 where
  pub held : List ℕ
  pub free : ℕ
  pub piece : ℕ
  pub failing : List ℕ
  pub calls : ℕ
  pub faults : ℕ

-- one that was not called yet
abbrev pub fresh_store : ℕ → ℕ → List ℕ → Store
fresh_store room piece failing = record { held = []; free = room; piece = piece; failing = failing; calls = 0; faults = 0 }

-- the next call is one of those that fail, or the piece has bytes and there is no room
abbrev pub RefusesNext : Store → List ℕ → Type 0
RefusesNext store piece = IsNextToFail store.failing store.calls ⊎ ((0 < length piece) × (store.free ≡ 0))

-- after a call that took these bytes
abbrev pub after_write : Store → List ℕ → Store
after_write store taken = record store { held = store.held ++ taken; free = store.free - length taken; calls = raised store.calls }

-- after a call that failed
abbrev pub after_failure : Store → Store
after_failure store = record store { calls = raised store.calls; faults = raised store.faults }
