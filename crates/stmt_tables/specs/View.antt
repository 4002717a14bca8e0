-- What a turn and the ways in which a word is taken are, as the program holds them.
use Rattle.std.specs.Prelude.{List, [], ◌∷◌, ◌++◌, Option, Some, None}
use Rattle.front_tables.specs.View.{turn_view as inner_view}
use Rattle.stmt_fronts.specs.Turns as turns
use Rattle.stmt_fronts.specs.Turns.{all_within, followed, within}
use Rattle.stmt_tables.specs.declared.turn.Turn.{Turn}
use Rattle.stmt_tables.specs.declared.turn.Turn.TheVariants.{GoesOn, Begins, Calls, Joins, Within}
use Rattle.stmt_tables.specs.declared.ways.Ways.{Ways}
use Rattle.stmt_tables.specs.declared.ways.Ways.TheVariants.{NoWay, One, Two}

abbrev pub turn_view : Turn → turns.Turn
turn_view (GoesOn first parts) = turns.goes_on (first.now ++ parts.now)
turn_view (Begins parts behind) = turns.begins 0 parts.now behind.now
turn_view (Calls pull parts behind) = turns.calls pull (all_within parts.now) behind.now
turn_view (Joins left parts behind) = turns.joins left 0 parts.now behind.now
turn_view (Within turn more) = followed more.now (within (inner_view turn))

abbrev pub ways_view : Ways → List turns.Turn
ways_view NoWay = []
ways_view (One turn) = turn_view turn ∷ []
ways_view (Two first second) = turn_view first ∷ turn_view second ∷ []

-- at most one way
abbrev pub way_view : Option Turn → List turns.Turn
way_view None = []
way_view (Some turn) = turn_view turn ∷ []
