-- What follows for bytes that are told.
use Rattle.std.proofs.Common.{ℕ, ◌+◌, List, ◌++◌, take, drop, append_assoc, length, length-take, arith, ap, ◌≡◌, ◌∙◌, ◌<◌, ◌≤◌}
use Rattle.std.specs.Prelude.{Option, Some, None}
use Rattle.std.specs.Io.KnownBytes.{Appends}
use Rattle.std.proofs.Math.Seq.{take-add}
use Rattle.std.proofs.lemmas.List.{take_all}

-- a part that was added behind another adds both
pub added_more : (before mid now : Option (List ℕ)) (bytes : List ℕ) (written n : ℕ) → Appends before mid (take written bytes) → Appends mid now (take n (drop written bytes)) → Appends before now (take (written + n) bytes)
added_more None mid now bytes written n first second = tt
added_more (Some held) None now bytes written n first second = absurd first
added_more (Some held) (Some more) None bytes written n first second = absurd second
added_more (Some held) (Some more) (Some most) bytes written n first second =
    rw (take-add written n bytes, ← append_assoc held (take written bytes) (take n (drop written bytes)), ← first) second

with_added : (now : Option (List ℕ)) (bytes had : List ℕ) → Appends (Some had) now bytes → now ≡ Some (had ++ bytes)
with_added None bytes had added = absurd added
with_added (Some more) bytes had added = ap Some added

-- what was held, with the bytes that were added
pub held_with : (before now : Option (List ℕ)) (bytes had : List ℕ) → before ≡ Some had → Appends before now bytes → now ≡ Some (had ++ bytes)
held_with before now bytes had told added = with_added now bytes had (rw told at added)

-- at most n bytes of the first n + 1 are all of them
pub all_within : (n : ℕ) (told bytes : List ℕ) → bytes ≡ take (n + 1) told → length bytes ≤ n → bytes ≡ told
all_within n told bytes first short = first ∙ take_all (n + 1) told (omega (arith, length-take (n + 1) told, ap length first))

-- more than n bytes are first in more than n
pub longer_than : (n : ℕ) (told bytes : List ℕ) → bytes ≡ take (n + 1) told → n < length bytes → n < length told
longer_than n told bytes first long = omega (arith, length-take (n + 1) told, ap length first)
