-- What a memory moves to a buffer.
use Rattle.std.proofs.Common.{◌≡◌, ℕ, ◌+◌, ◌<◌, ◌≤◌, List, [], ◌++◌, length, take, drop, min, sym, arith, length-drop}
use Rattle.std.proofs.lemmas.List.{drop-drop, drop_all, take-append-drop}

-- what was left stands as the bytes that were moved and the rest
pub moved_and_rest : (bytes to : List ℕ) (next n : ℕ) → take n to ≡ take n (drop next bytes) → drop next bytes ≡ take n to ++ drop (next + n) bytes
moved_and_rest bytes to next n front = rw (front, ← drop-drop n next bytes) (sym (take-append-drop n (drop next bytes)))

-- nothing is moved into some room only at the end
pub end_of_none : (bytes : List ℕ) (room most next n : ℕ) → (0 < room → 1 ≤ most) → n ≡ min most (min (length (drop next bytes)) room) → n ≡ 0 → 0 < room → drop (next + n) bytes ≡ []
end_of_none bytes room most next n some count none has =
    let positive : 1 ≤ most = some has in
    drop_all (next + n) bytes (omega (arith, length-drop next bytes))
