-- Members of lists, keys of pairs, and numbers that follow each other.
use Rattle.std.specs.Prelude.{ℕ, zero, suc, ℤ, pos, ◌+ℤ◌, ◌-ℤ◌, unsigned_abs, int_le, Bool, if◌then◌else◌, List, [], ◌∷◌, Option, Some, None}
use Rattle.std.specs.List.{list_any}
use Rattle.abstract_syntax.specs.Values.{ValueTree, number}
use Rattle.abstract_syntax.specs.ValueSets.{Entry}
use Rattle.value_operators.specs.Numbers.{is_same}

-- whether the value is one of them
abbrev pub has : List ValueTree → ValueTree → Bool
has vs v = list_any (is_same v) vs

-- the value of the first pair with this key
abbrev pub found : List Entry → ValueTree → Option ValueTree
found [] key = None
found (p ∷ ps) key = if is_same p.0 key then Some p.1 else found ps key

-- so many numbers, from m on
abbrev pub numbers_from : ℤ → ℕ → List ValueTree
numbers_from m zero = []
numbers_from m (suc count) = number m ∷ numbers_from (m +ℤ pos 1) count

-- how many numbers there are from m to n
abbrev pub count_from_to : ℤ → ℤ → ℕ
count_from_to m n = if int_le m n then suc (unsigned_abs (n -ℤ m)) else 0
