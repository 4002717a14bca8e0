-- Patterns and values for worked examples. The places of their nodes are all one.
use Rattle.std.specs.Prelude.{ℕ, pos, nat_eq, if◌then◌else◌, List, [], ◌∷◌, Option, Some, None}
use Rattle.vdm_kinds.specs.declared.name.Name.{Name}
use Rattle.vdm_kinds.specs.declared.name_at.TypeName.{TypeName}
use Rattle.vdm_kinds.specs.declared.part.Part.TheVariants.{Expr}
use Rattle.vdm_kinds.specs.declared.place.Place.{Place}
use Rattle.abstract_syntax.specs.Literals.{whole_literal}
use Rattle.abstract_syntax.specs.Expressions.{
  PatternTree,
  PatternTrees,
  MapletPatterns,
  self_object,
  any_value,
  bound,
  literal_pattern,
  equal_to,
  set_pattern,
  sequence_pattern,
  map_pattern,
  empty_map_pattern,
  tuple_pattern,
  record_pattern,
  concatenation_pattern,
  no_patterns,
  one_pattern,
  no_maplet_patterns,
  one_maplet_pattern,
}
use Rattle.abstract_syntax.specs.Values.{ValueTree, number, sequence, set_of, map_of, tuple, record_of, value_trees, pair_trees}
use Rattle.pattern_meaning.specs.RecordTypes.{RecordType}
use Rattle.pattern_meaning.specs.Bindings.{Binding, first_binding}

abbrev pub here : Place
here = record { part = Expr; line = 1; column = 1 }

-- the name of this number
abbrev pub name : ℕ → Name
name n = record { 0 = n }

abbrev pub num : ℕ → ValueTree
num n = number (pos n)

abbrev pub seq : List ValueTree → ValueTree
seq vs = sequence (value_trees vs)

abbrev pub set : List ValueTree → ValueTree
set vs = set_of (value_trees vs)

abbrev pub pairs : List (ValueTree × ValueTree) → ValueTree
pairs es = map_of (pair_trees es)

abbrev pub mk : List ValueTree → ValueTree
mk vs = tuple (value_trees vs)

abbrev pub rec : ℕ → ℕ → List ValueTree → ValueTree
rec class type_name vs = record_of (name class) (name type_name) (value_trees vs)

abbrev pub parts : List PatternTree → PatternTrees
parts [] = no_patterns
parts (p ∷ ps) = one_pattern p (parts ps)

abbrev pub maplets : List (PatternTree × PatternTree) → MapletPatterns
maplets [] = no_maplet_patterns
maplets (m ∷ ms) = one_maplet_pattern m.0 m.1 (maplets ms)

-- a name, a number, any value, and the value of an expression in brackets
abbrev pub x : ℕ → PatternTree
x n = bound (name n) here

abbrev pub lit : ℕ → PatternTree
lit n = literal_pattern (whole_literal (pos n)) here

abbrev pub dash : PatternTree
dash = any_value here

abbrev pub value : PatternTree
value = equal_to (self_object here) here

abbrev pub seq_of : List PatternTree → PatternTree
seq_of ps = sequence_pattern (parts ps) here

abbrev pub set_of_ : List PatternTree → PatternTree
set_of_ ps = set_pattern (parts ps) here

abbrev pub map_of_ : List (PatternTree × PatternTree) → PatternTree
map_of_ ms = map_pattern (maplets ms) here

abbrev pub empty_map : PatternTree
empty_map = empty_map_pattern here

abbrev pub mk_of : List PatternTree → PatternTree
mk_of ps = tuple_pattern (parts ps) here

abbrev pub cat : List PatternTree → PatternTree
cat ps = concatenation_pattern (parts ps) here

abbrev pub type_named : ℕ → TypeName
type_named n = record { class = None; name = name n; name_place = here }

abbrev pub rec_of : ℕ → List PatternTree → PatternTree
rec_of n ps = record_pattern (type_named n) (parts ps) here

-- each name stands for the record type of class 7 with this name, but for name 9, which stands for none
abbrev pub types : TypeName → Option RecordType
types t = if nat_eq t.name.0 9 then None else Some (record { class = name 7; name = t.name })

-- the first binding, where no expression stands in brackets
abbrev pub first : PatternTree → ValueTree → Option Binding
first p v = first_binding types p [] v
