-- The expressions in brackets in patterns, in text order.
use Rattle.std.specs.Prelude.{List, [], ◌∷◌, ◌++◌}
use Rattle.std.specs.List.{flat_map}
use Rattle.abstract_syntax.specs.Expressions.{
  ExprTree,
  PatternTree,
  any_value,
  bound,
  literal_pattern,
  equal_to,
  set_pattern,
  sequence_pattern,
  map_pattern,
  empty_map_pattern,
  tuple_pattern,
  record_pattern,
  concatenation_pattern,
  PatternTrees,
  no_patterns,
  one_pattern,
  MapletPatterns,
  no_maplet_patterns,
  one_maplet_pattern,
}

abbrev mutual
  -- those of a pattern
  pub given_in : PatternTree → List ExprTree
  given_in (any_value place) = []
  given_in (bound name place) = []
  given_in (literal_pattern value place) = []
  given_in (equal_to inner place) = inner ∷ []
  given_in (set_pattern elements place) = given_in_each elements
  given_in (sequence_pattern items place) = given_in_each items
  given_in (map_pattern maplets place) = given_in_maplets maplets
  given_in (empty_map_pattern place) = []
  given_in (tuple_pattern parts place) = given_in_each parts
  given_in (record_pattern t fields place) = given_in_each fields
  given_in (concatenation_pattern parts place) = given_in_each parts

  -- those of the patterns of a node
  pub given_in_each : PatternTrees → List ExprTree
  given_in_each no_patterns = []
  given_in_each (one_pattern p ps) = given_in p ++ given_in_each ps

  -- those of maplets, of the key before the value
  pub given_in_maplets : MapletPatterns → List ExprTree
  given_in_maplets no_maplet_patterns = []
  given_in_maplets (one_maplet_pattern p q rest) = given_in p ++ (given_in q ++ given_in_maplets rest)

-- those of several patterns
abbrev pub given_in_list : List PatternTree → List ExprTree
given_in_list = flat_map given_in
