-- Maps that can be turned.
use Rattle.std.specs.Prelude.{Bool, not}
use Rattle.abstract_syntax.specs.Values.{ValueTree, map_of, pair_list}
use Rattle.value_operators.specs.Maps.{turned, is_in_conflict, pairs_of}

-- no value of the map has two keys
abbrev pub can_be_turned : ValueTree → Bool
can_be_turned v = not (is_in_conflict (turned (pairs_of v)))
