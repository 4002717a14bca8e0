-- The bindings of several patterns, each with a value of its own: as those of one pattern that is made of them, so that equal names stand
-- for equal values.
use Rattle.std.specs.Prelude.{List, [], ◌∷◌, drop, Option}
use Rattle.std.specs.List.{filter_map}
use Rattle.vdm_kinds.specs.declared.name_at.TypeName.{TypeName}
use Rattle.abstract_syntax.specs.Expressions.{PatternTree}
use Rattle.abstract_syntax.specs.Values.{ValueTree}
use Rattle.pattern_meaning.specs.Bindings.{Binding, first_of, with_way}
use Rattle.pattern_meaning.specs.RecordTypes.{RecordType}
use Rattle.pattern_meaning.specs.Ways.{Way, plainly, crossed, brackets, ways}

module _ (types : TypeName → Option RecordType) where
  -- the ways of the first pattern with the first value, with those of the others; a pattern without a value has none
  abbrev pub ways_of_list : List PatternTree → List ValueTree → List ValueTree → List Way
  ways_of_list [] given vs = plainly
  ways_of_list (p ∷ ps) given [] = []
  ways_of_list (p ∷ ps) given (v ∷ vs) = crossed (ways types p given v) (ways_of_list ps (drop (brackets p) given) vs)

  -- the first binding of all of them
  abbrev pub binding_of_list : List PatternTree → List ValueTree → List ValueTree → Option Binding
  binding_of_list ps given vs = first_of (filter_map (with_way []) (ways_of_list ps given vs))
