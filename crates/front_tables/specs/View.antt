-- What a turn is, as the program holds it.
use Rattle.std.specs.Prelude.{◌++◌, Option, Some, None}
use Rattle.grammar_fronts.specs.Turns as turns
use Rattle.front_tables.specs.declared.turn.Turn.{Turn}
use Rattle.front_tables.specs.declared.turn.Turn.TheVariants.{GoesOn, Begins, Joins, Adds}

abbrev pub turn_view : Turn → turns.Turn
turn_view (GoesOn parts) = turns.goes_on parts.now
turn_view (Begins pull parts behind more) = turns.begins pull parts.now (behind.now ++ more.now)
turn_view (Joins left right parts behind) = turns.joins left right parts.now behind.now
turn_view (Adds pull parts) = turns.adds pull parts.now

abbrev pub turn_views : Option Turn → Option turns.Turn
turn_views (Some turn) = Some (turn_view turn)
turn_views None = None
