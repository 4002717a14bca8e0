-- What readings are, as the program holds them.
use Rattle.std.specs.Prelude.{List, [], ◌∷◌, map, Option, Some, None}
use Rattle.vdm_kinds.specs.declared.place.Place.{Place}
use Rattle.stmt_fronts.specs.declared.open_node.OpenNode.{OpenNode}
use Rattle.stmt_fronts.specs.Fronts as fronts
use Rattle.stmt_fronts.specs.Viable as viable
use Rattle.stmt_front_reader.specs.declared.names.Names.{Names}
use Rattle.stmt_front_reader.specs.declared.reading.Reading.{Reading}

abbrev pub names_view : Names → viable.Names
names_view names = record { class = names.class; definition = names.definition }

-- the nodes that are open count until one is too deep
abbrev pub nesting_of : Option Place → List OpenNode → fronts.Nesting
nesting_of None nodes = fronts.nested nodes
nesting_of (Some place) nodes = fronts.deep_at place

abbrev pub reading_view : Reading → fronts.Reading
reading_view reading =
    record {
      state = record { wanted = reading.parts.wanted; names = names_view reading.names };
      nesting = nesting_of reading.deep reading.parts.nodes;
      last = reading.last;
    }

abbrev pub reading_views : List Reading → List fronts.Reading
reading_views = map reading_view

-- where the first is too deep
abbrev pub first_deep : List Reading → Option Place
first_deep [] = None
first_deep (reading ∷ others) = reading.deep
