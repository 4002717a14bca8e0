-- What names stand for where a pattern matches a value are parts of that value: no way invents an object.
use Rattle.std.proofs.Common.{ℕ, Bool, true, false, List, [], ◌∷◌, ◌++◌, map, length, drop, Option, Some, None, IfSome}
use Rattle.std.specs.Prelude.{if◌then◌else◌}
use Rattle.std.specs.List.{AllByRecursion as Each}
use Rattle.vdm_kinds.specs.declared.name.Name.{Name}
use Rattle.vdm_kinds.specs.declared.name_at.TypeName.{TypeName}
use Rattle.abstract_syntax.specs.Expressions.{PatternTree, PatternTrees, MapletPatterns, any_value, bound, literal_pattern, equal_to, set_pattern, sequence_pattern, map_pattern, empty_map_pattern, tuple_pattern, record_pattern, concatenation_pattern, no_patterns, one_pattern, no_maplet_patterns, one_maplet_pattern}
use Rattle.abstract_syntax.specs.Literals.{LiteralTree, text_literal}
use Rattle.abstract_syntax.specs.Values.{ValueTree, character, tuple, record_of, sequence, set_of, map_of, value_trees, value_list}
use Rattle.abstract_syntax.specs.ValueSets.{Entry}
use Rattle.pattern_meaning.specs.Choices.{choices, splits}
use Rattle.pattern_meaning.specs.RecordTypes.{RecordType}
use Rattle.pattern_meaning.specs.Ways.{Way, plainly, where_true, crossed, as_many, is_same, is_next, literal_value, brackets, count_of_patterns, count_of_maplets, same_type, with_parts, items_in, elements_in, components_in, entries_in, fields_of, fields_in, ways, ways_of_items, ways_of_set, ways_of_map, ways_of_fronts}
use Rattle.value_parts.specs.Objects.{EachObject, EachObjectOnBoth}
use Rattle.value_parts.specs.BoundObjects.{EachObjectBound}
use Rattle.value_parts.proofs.Everywhere.{each_append, each_map, each_flat_map}
use Rattle.value_parts.proofs.Gathered.{listed, listed_pairs, gathered}

-- ---- choices

module _ {X : Type 0} (P : X → Type 0) where
  abbrev pub EachOfChoice : X × List X → Type 0
  EachOfChoice c = P c.0 × Each P c.1

  abbrev pub EachOfSplit : List X × List X → Type 0
  EachOfSplit s = Each P s.0 × Each P s.1

  pub each_choice : (xs : List X) → Each P xs → Each EachOfChoice (choices xs)
  each_choice [] h = tt
  each_choice (x ∷ xs) h =
      (h, each_map EachOfChoice EachOfChoice (λ c. (c.0, x ∷ c.1)) (λ c k. (k.0, (h.0, k.1))) (choices xs) (each_choice xs h.1))

  pub each_split : (xs : List X) → Each P xs → Each EachOfSplit (splits xs)
  each_split [] h = ((tt, tt), tt)
  each_split (x ∷ xs) h =
      ((tt, h), each_map EachOfSplit EachOfSplit (λ s. (x ∷ s.0, s.1)) (λ s k. ((h.0, k.0), k.1)) (splits xs) (each_split xs h.1))

module _ (P : ℕ → Name → Type 0) where
  -- ---- parts of a value

  items_keep : (v : ValueTree) → EachObject P v → IfSome (items_in v) (Each (EachObject P))
  items_keep (sequence vs) h = listed P vs h
  items_keep v h = tt

  elements_keep : (v : ValueTree) → EachObject P v → IfSome (elements_in v) (Each (EachObject P))
  elements_keep (set_of vs) h = listed P vs h
  elements_keep v h = tt

  components_keep : (v : ValueTree) → EachObject P v → IfSome (components_in v) (Each (EachObject P))
  components_keep (tuple vs) h = listed P vs h
  components_keep v h = tt

  entries_keep : (v : ValueTree) → EachObject P v → IfSome (entries_in v) (Each (EachObjectOnBoth P))
  entries_keep (map_of ps) h = listed_pairs P ps h
  entries_keep v h = tt

  fields_by : (vs : List ValueTree) → Each (EachObject P) vs → (r : Bool) → IfSome (if r then Some vs else None) (Each (EachObject P))
  fields_by vs h true = h
  fields_by vs h false = tt

  fields_of_keep : (t : RecordType) (v : ValueTree) → EachObject P v → IfSome (fields_of t v) (Each (EachObject P))
  fields_of_keep t (record_of class name vs) h = fields_by (value_list vs) (listed P vs h) (same_type t class name)
  fields_of_keep t v h = tt

  fields_keep : (o : Option RecordType) (v : ValueTree) → EachObject P v → IfSome (fields_in o v) (Each (EachObject P))
  fields_keep None v h = tt
  fields_keep (Some t) v h = fields_of_keep t v h

  -- ---- ways

  where_keeps : (r : Bool) (ws : List Way) → Each (EachObjectBound P) ws → Each (EachObjectBound P) (where_true r ws)
  where_keeps true ws h = h
  where_keeps false ws h = tt

  pub crossed_keeps : (ws us : List Way) → Each (EachObjectBound P) ws → Each (EachObjectBound P) us → Each (EachObjectBound P) (crossed ws us)
  crossed_keeps ws us h k =
      each_flat_map (EachObjectBound P) (EachObjectBound P) (λ first. map (λ second. first ++ second) us)
      (λ first j. each_map (EachObjectBound P) (EachObjectBound P) (λ second. first ++ second)
      (λ second l. each_append (λ (p : Name × ValueTree). EachObject P p.1) first second j l) us k) ws h

  parts_keep : {A : Type 0} (Q : A → Type 0) (o : Option A) (f : A → List Way) → ((parts : A) → Q parts → Each (EachObjectBound P) (f parts))
      → IfSome o Q → Each (EachObjectBound P) (with_parts o f)
  parts_keep Q None f k h = tt
  parts_keep Q (Some parts) f k h = k parts h

  module _ (types : TypeName → Option RecordType) where
    mutual
      pub ways_keep : (p : PatternTree) (given : List ValueTree) (v : ValueTree) → EachObject P v → Each (EachObjectBound P) (ways types p given v)
      ways_keep (any_value place) given v h = (tt, tt)
      ways_keep (bound name place) given v h = ((h, tt), tt)
      ways_keep (literal_pattern literal place) given v h = where_keeps (is_same v (literal_value literal)) plainly (tt, tt)
      ways_keep (equal_to inner place) given v h = where_keeps (is_next given v) plainly (tt, tt)
      ways_keep (set_pattern ps place) given v h =
          parts_keep (Each (EachObject P)) (elements_in v) (λ vs. where_true (as_many (count_of_patterns ps) (length vs)) (ways_of_set types ps given vs))
          (λ vs k. where_keeps (as_many (count_of_patterns ps) (length vs)) (ways_of_set types ps given vs) (set_keeps ps given vs k)) (elements_keep v h)
      ways_keep (sequence_pattern ps place) given v h =
          parts_keep (Each (EachObject P)) (items_in v) (λ vs. where_true (as_many (count_of_patterns ps) (length vs)) (ways_of_items types ps given vs))
          (λ vs k. where_keeps (as_many (count_of_patterns ps) (length vs)) (ways_of_items types ps given vs) (each_keeps ps given vs k)) (items_keep v h)
      ways_keep (map_pattern ms place) given v h =
          parts_keep (Each (EachObjectOnBoth P)) (entries_in v) (λ es. where_true (as_many (count_of_maplets ms) (length es)) (ways_of_map types ms given es))
          (λ es k. where_keeps (as_many (count_of_maplets ms) (length es)) (ways_of_map types ms given es) (map_keeps ms given es k)) (entries_keep v h)
      ways_keep (empty_map_pattern place) given v h =
          parts_keep (Each (EachObjectOnBoth P)) (entries_in v) (λ es. where_true (as_many 0 (length es)) plainly)
          (λ es k. where_keeps (as_many 0 (length es)) plainly (tt, tt)) (entries_keep v h)
      ways_keep (tuple_pattern ps place) given v h =
          parts_keep (Each (EachObject P)) (components_in v) (λ vs. where_true (as_many (count_of_patterns ps) (length vs)) (ways_of_items types ps given vs))
          (λ vs k. where_keeps (as_many (count_of_patterns ps) (length vs)) (ways_of_items types ps given vs) (each_keeps ps given vs k)) (components_keep v h)
      ways_keep (record_pattern t ps place) given v h =
          parts_keep (Each (EachObject P)) (fields_in (types t) v) (λ vs. where_true (as_many (count_of_patterns ps) (length vs)) (ways_of_items types ps given vs))
          (λ vs k. where_keeps (as_many (count_of_patterns ps) (length vs)) (ways_of_items types ps given vs) (each_keeps ps given vs k)) (fields_keep (types t) v h)
      ways_keep (concatenation_pattern ps place) given v h =
          parts_keep (Each (EachObject P)) (items_in v) (ways_of_fronts types ps given) (fronts_keep ps given) (items_keep v h)

      each_keeps : (ps : PatternTrees) (given vs : List ValueTree) → Each (EachObject P) vs → Each (EachObjectBound P) (ways_of_items types ps given vs)
      each_keeps no_patterns given vs h = (tt, tt)
      each_keeps (one_pattern p ps) given [] h = tt
      each_keeps (one_pattern p ps) given (v ∷ vs) h =
          crossed_keeps (ways types p given v) (ways_of_items types ps (drop (brackets p) given) vs)
          (ways_keep p given v h.0) (each_keeps ps (drop (brackets p) given) vs h.1)

      set_keeps : (ps : PatternTrees) (given vs : List ValueTree) → Each (EachObject P) vs → Each (EachObjectBound P) (ways_of_set types ps given vs)
      set_keeps no_patterns given vs h = (tt, tt)
      set_keeps (one_pattern p ps) given vs h =
          each_flat_map (EachOfChoice (EachObject P)) (EachObjectBound P)
          (λ c. crossed (ways types p given c.0) (ways_of_set types ps (drop (brackets p) given) c.1))
          (λ c k. crossed_keeps (ways types p given c.0) (ways_of_set types ps (drop (brackets p) given) c.1)
          (ways_keep p given c.0 k.0) (set_keeps ps (drop (brackets p) given) c.1 k.1)) (choices vs) (each_choice (EachObject P) vs h)

      map_keeps : (ms : MapletPatterns) (given : List ValueTree) (es : List Entry) → Each (EachObjectOnBoth P) es → Each (EachObjectBound P) (ways_of_map types ms given es)
      map_keeps no_maplet_patterns given es h = (tt, tt)
      map_keeps (one_maplet_pattern p q ms) given es h =
          each_flat_map (EachOfChoice (EachObjectOnBoth P)) (EachObjectBound P)
          (λ c. crossed (ways types p given c.0.0)
          (crossed (ways types q (drop (brackets p) given) c.0.1) (ways_of_map types ms (drop (brackets q) (drop (brackets p) given)) c.1)))
          (λ c k. crossed_keeps (ways types p given c.0.0)
          (crossed (ways types q (drop (brackets p) given) c.0.1) (ways_of_map types ms (drop (brackets q) (drop (brackets p) given)) c.1))
          (ways_keep p given c.0.0 k.0.0)
          (crossed_keeps (ways types q (drop (brackets p) given) c.0.1) (ways_of_map types ms (drop (brackets q) (drop (brackets p) given)) c.1)
          (ways_keep q (drop (brackets p) given) c.0.1 k.0.1) (map_keeps ms (drop (brackets q) (drop (brackets p) given)) c.1 k.1)))
          (choices es) (each_choice (EachObjectOnBoth P) es h)

      fronts_keep : (ps : PatternTrees) (given vs : List ValueTree) → Each (EachObject P) vs → Each (EachObjectBound P) (ways_of_fronts types ps given vs)
      fronts_keep no_patterns given [] h = (tt, tt)
      fronts_keep no_patterns given (v ∷ vs) h = tt
      fronts_keep (one_pattern p ps) given vs h =
          each_flat_map (EachOfSplit (EachObject P)) (EachObjectBound P)
          (λ s. crossed (ways types p given (sequence (value_trees s.0))) (ways_of_fronts types ps (drop (brackets p) given) s.1))
          (λ s k. crossed_keeps (ways types p given (sequence (value_trees s.0))) (ways_of_fronts types ps (drop (brackets p) given) s.1)
          (ways_keep p given (sequence (value_trees s.0)) (gathered P s.0 k.0)) (fronts_keep ps (drop (brackets p) given) s.1 k.1))
          (splits vs) (each_split (EachObject P) vs h)

  -- ---- literals

  each_character : (cs : List ℕ) → Each (EachObject P) (map character cs)
  each_character [] = tt
  each_character (c ∷ cs) = (tt, each_character cs)

  -- a literal has no object
  pub literal_keeps : (literal : LiteralTree) → EachObject P (literal_value literal)
  literal_keeps (text_literal cs) = gathered P (map character cs) (each_character cs)
  literal_keeps literal = tt
