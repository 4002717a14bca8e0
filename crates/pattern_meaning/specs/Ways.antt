-- The ways in which a pattern matches a value, in the order in which they are tried. A way says what the names of the pattern stand for,
-- in text order; whether a name that stands twice stands for one value is not asked here.
use Rattle.std.specs.Prelude.{ℕ, suc, ◌+◌, Bool, true, false, ◌&&◌, if◌then◌else◌, nat_eq, List, [], ◌∷◌, ◌++◌, map, length, drop, Option, Some, None}
use Rattle.std.specs.List.{flat_map}
use Rattle.vdm_kinds.specs.declared.name.Name.{Name}
use Rattle.vdm_kinds.specs.declared.name_at.TypeName.{TypeName}
use Rattle.abstract_syntax.specs.Literals.{
  LiteralTree,
  whole_literal,
  character_literal,
  text_literal,
  quote_literal,
  boolean_literal,
  nil_literal,
}
use Rattle.abstract_syntax.specs.Expressions.{
  PatternTree,
  PatternTrees,
  MapletPatterns,
  any_value,
  bound,
  literal_pattern,
  equal_to,
  set_pattern,
  sequence_pattern,
  map_pattern,
  empty_map_pattern,
  tuple_pattern,
  record_pattern,
  concatenation_pattern,
  no_patterns,
  one_pattern,
  no_maplet_patterns,
  one_maplet_pattern,
}
use Rattle.abstract_syntax.specs.Values.{
  ValueTree,
  nil,
  boolean,
  number,
  character,
  quote,
  tuple,
  record_of,
  sequence,
  set_of,
  map_of,
  value_trees,
  value_list,
  pair_list,
}
use Rattle.abstract_syntax.specs.ValueSets.{Entry}
use Rattle.abstract_syntax.specs.ValueCode.{value_code}
use Rattle.abstract_syntax.specs.SameBy.{same_by}
use Rattle.pattern_meaning.specs.Choices.{choices, splits}
use Rattle.pattern_meaning.specs.RecordTypes.{RecordType}

-- names with what they stand for
abbrev pub Way : Type 0
Way = List (Name × ValueTree)

-- the value of a literal; a text is the sequence of its characters
abbrev pub literal_value : LiteralTree → ValueTree
literal_value (whole_literal n) = number n
literal_value (character_literal c) = character c
literal_value (text_literal cs) = sequence (value_trees (map character cs))
literal_value (quote_literal name) = quote name
literal_value (boolean_literal b) = boolean b
literal_value nil_literal = nil

-- how many bracketed expressions a pattern has
abbrev mutual
  pub brackets : PatternTree → ℕ
  brackets (equal_to inner place) = 1
  brackets (set_pattern parts place) = brackets_among parts
  brackets (sequence_pattern parts place) = brackets_among parts
  brackets (map_pattern maplets place) = brackets_in maplets
  brackets (tuple_pattern parts place) = brackets_among parts
  brackets (record_pattern type_name parts place) = brackets_among parts
  brackets (concatenation_pattern parts place) = brackets_among parts
  brackets _ = 0

  pub brackets_among : PatternTrees → ℕ
  brackets_among no_patterns = 0
  brackets_among (one_pattern p ps) = brackets p + brackets_among ps

  pub brackets_in : MapletPatterns → ℕ
  brackets_in no_maplet_patterns = 0
  brackets_in (one_maplet_pattern p q ms) = brackets p + brackets q + brackets_in ms

abbrev pub count_of_patterns : PatternTrees → ℕ
count_of_patterns no_patterns = 0
count_of_patterns (one_pattern p ps) = suc (count_of_patterns ps)

abbrev pub count_of_maplets : MapletPatterns → ℕ
count_of_maplets no_maplet_patterns = 0
count_of_maplets (one_maplet_pattern p q ms) = suc (count_of_maplets ms)

-- one way, which names nothing
abbrev pub plainly : List Way
plainly = [] ∷ []

-- the ways where a test holds, else none
abbrev pub where_true : Bool → List Way → List Way
where_true true ways = ways
where_true false ways = []

-- each of the first ways with each of the second, the first varying slowest
abbrev pub crossed : List Way → List Way → List Way
crossed firsts seconds = flat_map (λ first. map (λ second. first ++ second) seconds) firsts

abbrev pub is_same : ValueTree → ValueTree → Bool
is_same = same_by value_code

-- whether the first of the values that are given is this one
abbrev pub is_next : List ValueTree → ValueTree → Bool
is_next [] v = false
is_next (g ∷ gs) v = is_same v g

-- ---- the parts of a value; None of a value of another kind

abbrev pub items_in : ValueTree → Option (List ValueTree)
items_in (sequence vs) = Some (value_list vs)
items_in _ = None

abbrev pub elements_in : ValueTree → Option (List ValueTree)
elements_in (set_of vs) = Some (value_list vs)
elements_in _ = None

abbrev pub components_in : ValueTree → Option (List ValueTree)
components_in (tuple vs) = Some (value_list vs)
components_in _ = None

abbrev pub entries_in : ValueTree → Option (List Entry)
entries_in (map_of es) = Some (pair_list es)
entries_in _ = None

abbrev pub same_type : RecordType → Name → Name → Bool
same_type t class name = nat_eq t.class.0 class.0 && nat_eq t.name.0 name.0

-- the fields of a record of this type
abbrev pub fields_of : RecordType → ValueTree → Option (List ValueTree)
fields_of t (record_of class name vs) = if same_type t class name then Some (value_list vs) else None
fields_of _ _ = None

abbrev pub fields_in : Option RecordType → ValueTree → Option (List ValueTree)
fields_in None v = None
fields_in (Some t) v = fields_of t v

-- the ways with the parts, where there are any
abbrev pub with_parts : {A : Type 0} → Option A → (A → List Way) → List Way
with_parts None f = []
with_parts (Some parts) f = f parts

abbrev pub as_many : ℕ → ℕ → Bool
as_many = nat_eq

-- `types` gives the record type that a name stands for; `given` has the values of the pattern's bracketed expressions in text order,
-- and perhaps more behind them
module _ (types : TypeName → Option RecordType) where
  abbrev mutual
    pub ways : PatternTree → List ValueTree → ValueTree → List Way
    ways (any_value place) given v = plainly
    ways (bound name place) given v = ((name, v) ∷ []) ∷ []
    ways (literal_pattern literal place) given v = where_true (is_same v (literal_value literal)) plainly
    ways (equal_to inner place) given v = where_true (is_next given v) plainly
    ways (set_pattern ps place) given v =
        with_parts (elements_in v) (λ vs. where_true (as_many (count_of_patterns ps) (length vs)) (ways_of_set ps given vs))
    ways (sequence_pattern ps place) given v =
        with_parts (items_in v) (λ vs. where_true (as_many (count_of_patterns ps) (length vs)) (ways_of_items ps given vs))
    ways (map_pattern ms place) given v =
        with_parts (entries_in v) (λ es. where_true (as_many (count_of_maplets ms) (length es)) (ways_of_map ms given es))
    ways (empty_map_pattern place) given v = with_parts (entries_in v) (λ es. where_true (as_many 0 (length es)) plainly)
    ways (tuple_pattern ps place) given v =
        with_parts (components_in v) (λ vs. where_true (as_many (count_of_patterns ps) (length vs)) (ways_of_items ps given vs))
    ways (record_pattern t ps place) given v =
        with_parts (fields_in (types t) v) (λ vs. where_true (as_many (count_of_patterns ps) (length vs)) (ways_of_items ps given vs))
    ways (concatenation_pattern ps place) given v = with_parts (items_in v) (ways_of_fronts ps given)

    -- the first pattern with the first item, and so on
    pub ways_of_items : PatternTrees → List ValueTree → List ValueTree → List Way
    ways_of_items no_patterns given vs = plainly
    ways_of_items (one_pattern p ps) given [] = []
    ways_of_items (one_pattern p ps) given (v ∷ vs) = crossed (ways p given v) (ways_of_items ps (drop (brackets p) given) vs)

    -- the first pattern takes an element, from the first one on, and leaves the others to the patterns behind it
    pub ways_of_set : PatternTrees → List ValueTree → List ValueTree → List Way
    ways_of_set no_patterns given vs = plainly
    ways_of_set (one_pattern p ps) given vs =
        flat_map (λ c. crossed (ways p given c.0) (ways_of_set ps (drop (brackets p) given) c.1)) (choices vs)

    -- likewise of a map's pairs, the pattern of the key before that of the value
    pub ways_of_map : MapletPatterns → List ValueTree → List Entry → List Way
    ways_of_map no_maplet_patterns given es = plainly
    ways_of_map (one_maplet_pattern p q ms) given es =
        flat_map
        (λ c. crossed (ways p given c.0.0)
        (crossed (ways q (drop (brackets p) given) c.0.1) (ways_of_map ms (drop (brackets q) (drop (brackets p) given)) c.1)))
        (choices es)

    -- the first pattern takes a front, the shortest first, and leaves the rest to the patterns behind it, which leave nothing
    pub ways_of_fronts : PatternTrees → List ValueTree → List ValueTree → List Way
    ways_of_fronts no_patterns given [] = plainly
    ways_of_fronts no_patterns given (v ∷ vs) = []
    ways_of_fronts (one_pattern p ps) given vs =
        flat_map
        (λ s. crossed (ways p given (sequence (value_trees s.0))) (ways_of_fronts ps (drop (brackets p) given) s.1)) (splits vs)
