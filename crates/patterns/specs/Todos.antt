-- What is still to be matched, and the ways in which it matches.
use Rattle.std.specs.Prelude.{◌≡◌, ℕ, List, [], ◌∷◌, map, drop, Option}
use Rattle.std.specs.Borrow.{Bor}
use Rattle.std.specs.List.{flat_map}
use Rattle.vdm_kinds.specs.declared.name_at.TypeName.{TypeName}
use Rattle.abstract_syntax.specs.Expressions.{
  PatternTree,
  PatternTrees,
  MapletPatterns,
  no_patterns,
  one_pattern,
  no_maplet_patterns,
  one_maplet_pattern,
}
use Rattle.abstract_syntax.specs.Values.{ValueTree, sequence, value_trees}
use Rattle.abstract_syntax.specs.ValueSets.{Entry}
use Rattle.pattern_meaning.specs.Choices.{choices, splits}
use Rattle.pattern_meaning.specs.RecordTypes.{RecordType}
use Rattle.pattern_meaning.specs.Ways.{
  Way,
  plainly,
  where_true,
  crossed,
  is_next,
  brackets,
  brackets_among,
  brackets_in,
  ways,
  ways_of_items,
  ways_of_set,
  ways_of_map,
  ways_of_fronts,
}
use Rattle.expr_tree.specs.declared.pattern.Pattern.{Pattern}
use Rattle.expr_tree.specs.View.{pattern_view, pattern_views, pattern_trees, maplet_pattern_view, maplet_pattern_trees}
use Rattle.patterns.specs.declared.subject.Subject.{Subject}
use Rattle.patterns.specs.declared.subject.Subject.TheVariants.{Whole, Part}
use Rattle.patterns.specs.declared.todo.Todo.{Todo}
use Rattle.patterns.specs.declared.todo.Todo.TheVariants.{Match, Items, Choose, ChoosePair, Split}
use Rattle.patterns.specs.declared.todo.Next.{Next}
use Rattle.patterns.specs.declared.todo.Next.TheVariants.{Fails, Holds, Compares, Binds, Becomes}

-- a pattern with a value; patterns item by item; patterns of which the first takes an element, pair or front from this one on
pub data TodoTree : Type 0 where
  to_match : PatternTree → ValueTree → TodoTree
  to_match_items : PatternTrees → List ValueTree → TodoTree
  to_choose : PatternTrees → List ValueTree → ℕ → TodoTree
  to_choose_pair : MapletPatterns → List Entry → ℕ → TodoTree
  to_split : PatternTrees → List ValueTree → ℕ → TodoTree

-- the value that is matched
abbrev pub subject_tree : Subject → ValueTree
subject_tree (Whole v) = v.now
subject_tree (Part vs) = sequence (value_trees vs.now)

-- what references are to
abbrev pub at : {A : Type 0} → List (Bor A) → List A
at references = map (λ r. r.now) references

abbrev pub todo_of : Todo → TodoTree
todo_of (Match p v) = to_match (pattern_view p.now) (subject_tree v)
todo_of (Items ps vs) = to_match_items (pattern_trees (pattern_views ps.now)) vs.now
todo_of (Choose ps vs from) = to_choose (pattern_trees (pattern_views ps.now)) (at vs.items) from
todo_of (ChoosePair ms es from) = to_choose_pair (maplet_pattern_trees (map maplet_pattern_view ms.now)) (at es.items) from
todo_of (Split ps vs from) = to_split (pattern_trees (pattern_views ps.now)) vs.now from

-- each pattern with the value at its place, the first one first
abbrev pub to_match_each : List PatternTree → List ValueTree → List TodoTree
to_match_each [] vs = []
to_match_each (p ∷ ps) [] = []
to_match_each (p ∷ ps) (v ∷ vs) = to_match p v ∷ to_match_each ps vs

-- the trees of the patterns that references are to
abbrev pub patterns_at : List (Bor Pattern) → List PatternTree
patterns_at references = map (λ (r : Bor Pattern). pattern_view r.now) references

abbrev pub todo_brackets : TodoTree → ℕ
todo_brackets (to_match p v) = brackets p
todo_brackets (to_match_items ps vs) = brackets_among ps
todo_brackets (to_choose ps vs from) = brackets_among ps
todo_brackets (to_choose_pair ms es from) = brackets_in ms
todo_brackets (to_split ps vs from) = brackets_among ps

module _ (types : TypeName → Option RecordType) where
  abbrev pub choosing : PatternTrees → List ValueTree → List ValueTree → ℕ → List Way
  choosing no_patterns given vs from = plainly
  choosing (one_pattern p ps) given vs from =
      flat_map (λ c. crossed (ways types p given c.0) (ways_of_set types ps (drop (brackets p) given) c.1)) (drop from (choices vs))

  abbrev pub choosing_pair : MapletPatterns → List ValueTree → List Entry → ℕ → List Way
  choosing_pair no_maplet_patterns given es from = plainly
  choosing_pair (one_maplet_pattern p q ms) given es from =
      flat_map
      (λ c. crossed (ways types p given c.0.0)
      (crossed (ways types q (drop (brackets p) given) c.0.1)
      (ways_of_map types ms (drop (brackets q) (drop (brackets p) given)) c.1)))
      (drop from (choices es))

  abbrev pub splitting : PatternTrees → List ValueTree → List ValueTree → ℕ → List Way
  splitting no_patterns given vs from = ways_of_fronts types no_patterns given vs
  splitting (one_pattern p ps) given vs from =
      flat_map
      (λ s. crossed (ways types p given (sequence (value_trees s.0))) (ways_of_fronts types ps (drop (brackets p) given) s.1))
      (drop from (splits vs))

  abbrev pub todo_ways : TodoTree → List ValueTree → List Way
  todo_ways (to_match p v) given = ways types p given v
  todo_ways (to_match_items ps vs) given = ways_of_items types ps given vs
  todo_ways (to_choose ps vs from) given = choosing ps given vs from
  todo_ways (to_choose_pair ms es from) given = choosing_pair ms given es from
  todo_ways (to_split ps vs from) given = splitting ps given vs from

  -- the ways of all that is still to be matched, what comes next first
  unfoldable pub all_ways : List ValueTree → List TodoTree → List Way
  all_ways given [] = plainly
  all_ways given (t ∷ ts) = crossed (todo_ways t given) (all_ways (drop (todo_brackets t) given) ts)

  -- the ways behind what a pattern asks for next
  abbrev pub next_ways : Next → List ValueTree → List TodoTree → List Way
  next_ways Fails given ts = []
  next_ways Holds given ts = all_ways given ts
  next_ways (Compares v) given ts = where_true (is_next given (subject_tree v)) (all_ways (drop 1 given) ts)
  next_ways (Binds name v) given ts = map (λ way. (name, subject_tree v) ∷ way) (all_ways given ts)
  next_ways (Becomes t) given ts = all_ways given (todo_of t ∷ ts)

  -- a pattern with a value asks for this next
  abbrev pub Opens : PatternTree → ValueTree → Next → Type 0
  Opens p v next = (given : List ValueTree) (ts : List TodoTree) → all_ways given (to_match p v ∷ ts) ≡ next_ways next given ts

  -- what has these ways, and so many bracketed expressions, asks for this next
  abbrev pub Leads : (List ValueTree → List Way) → ℕ → Next → Type 0
  Leads ways_with count next =
      (given : List ValueTree) (ts : List TodoTree) →
      crossed (ways_with given) (all_ways (drop count given) ts) ≡ next_ways next given ts
