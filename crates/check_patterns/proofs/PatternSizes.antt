-- How many patterns stand in a pattern, itself among them: what a recursion over patterns goes down by.
use Rattle.std.proofs.Common.{◌≡◌, ℕ, zero, suc, ◌+◌, ◌<◌, ◌≤◌, List, [], ◌∷◌, map, length, get_or, Vec, Global, ap, sym, ◌∙◌, arith}
use Rattle.vdm_kinds.specs.declared.name_at.TypeName.{TypeName}
use Rattle.vdm_kinds.specs.declared.place.Place.{Place}
use Rattle.abstract_syntax.specs.Expressions.{
  PatternTree,
  PatternTrees,
  MapletPatterns,
  any_value,
  bound,
  literal_pattern,
  equal_to,
  set_pattern,
  sequence_pattern,
  map_pattern,
  empty_map_pattern,
  tuple_pattern,
  record_pattern,
  concatenation_pattern,
  no_patterns,
  one_pattern,
  no_maplet_patterns,
  one_maplet_pattern,
}
use Rattle.expr_tree.specs.declared.pattern.Pattern as rust
use Rattle.expr_tree.specs.declared.pattern.Pattern.{Pattern}
use Rattle.expr_tree.specs.declared.pattern.MapletPattern.{MapletPattern}
use Rattle.expr_tree.specs.View.{pattern_view, pattern_views, pattern_trees, maplet_pattern_view, maplet_pattern_trees}
use Rattle.check_patterns.proofs.Shapes.{view-Set, view-Sequence, view-Map, view-Tuple, view-Record, view-Concatenation}

abbrev mutual
  pub nodes : PatternTree → ℕ
  nodes (any_value place) = 1
  nodes (bound name place) = 1
  nodes (literal_pattern value place) = 1
  nodes (equal_to inner place) = 1
  nodes (set_pattern elements place) = suc (nodes_each elements)
  nodes (sequence_pattern items place) = suc (nodes_each items)
  nodes (map_pattern maplets place) = suc (nodes_pairs maplets)
  nodes (empty_map_pattern place) = 1
  nodes (tuple_pattern parts place) = suc (nodes_each parts)
  nodes (record_pattern t fields place) = suc (nodes_each fields)
  nodes (concatenation_pattern parts place) = suc (nodes_each parts)

  pub nodes_each : PatternTrees → ℕ
  nodes_each no_patterns = 0
  nodes_each (one_pattern p ps) = nodes p + nodes_each ps

  pub nodes_pairs : MapletPatterns → ℕ
  nodes_pairs no_maplet_patterns = 0
  nodes_pairs (one_maplet_pattern p q rest) = nodes p + (nodes q + nodes_pairs rest)

-- of the program's lists
abbrev pub nodes_in : List Pattern → ℕ
nodes_in ps = nodes_each (pattern_trees (pattern_views ps))

abbrev pub nodes_among : List MapletPattern → ℕ
nodes_among ms = nodes_pairs (maplet_pattern_trees (map maplet_pattern_view ms))

-- ---- no part has more than all of them together

pub nodes_of_one : (xs : List Pattern) (i : ℕ) (x : Pattern) → x ≡ get_or xs i x → i < length xs → nodes (pattern_view x) ≤ nodes_in xs
nodes_of_one [] i x is below = absurd (omega arith)
nodes_of_one (y ∷ ys) zero x is below = omega (arith, ap (λ (z : Pattern). nodes (pattern_view z)) is)
nodes_of_one (y ∷ ys) (suc i) x is below =
    let ih : nodes (pattern_view x) ≤ nodes_in ys = nodes_of_one ys i x is (omega arith) in omega arith

nodes_of_pair : (xs : List MapletPattern) (i : ℕ) (x : MapletPattern) → x ≡ get_or xs i x → i < length xs
    → nodes (maplet_pattern_view x).key + nodes (maplet_pattern_view x).value ≤ nodes_among xs
nodes_of_pair [] i x is below = absurd (omega arith)
nodes_of_pair (y ∷ ys) zero x is below = omega
    (arith, ap (λ (z : MapletPattern). nodes (maplet_pattern_view z).key) is, ap (λ (z : MapletPattern). nodes (maplet_pattern_view z).value) is)
nodes_of_pair (y ∷ ys) (suc i) x is below =
    let ih : nodes (maplet_pattern_view x).key + nodes (maplet_pattern_view x).value ≤ nodes_among ys = nodes_of_pair ys i x is (omega arith) in
    omega arith

pub nodes_of_key : (xs : List MapletPattern) (i : ℕ) (x : MapletPattern) (k : PatternTree) → x ≡ get_or xs i x → i < length xs
    → k ≡ (maplet_pattern_view x).key → nodes k ≤ nodes_among xs
nodes_of_key xs i x k is below e =
    let pair : nodes (maplet_pattern_view x).key + nodes (maplet_pattern_view x).value ≤ nodes_among xs = nodes_of_pair xs i x is below in
    omega (arith, ap nodes e)

pub nodes_of_value : (xs : List MapletPattern) (i : ℕ) (x : MapletPattern) (v : PatternTree) → x ≡ get_or xs i x → i < length xs
    → v ≡ (maplet_pattern_view x).value → nodes v ≤ nodes_among xs
nodes_of_value xs i x v is below e =
    let pair : nodes (maplet_pattern_view x).key + nodes (maplet_pattern_view x).value ≤ nodes_among xs = nodes_of_pair xs i x is below in
    omega (arith, ap nodes e)

-- ---- a pattern has one more than its parts

module _ (p : Pattern) (place : Place) (ps : Vec Pattern Global) (items : List Pattern) (same : items ≡ ps.items) where
  pub nodes_of_set : p ≡ rust.Set ps place → nodes (pattern_view p) ≡ suc (nodes_in items)
  nodes_of_set shape = ap nodes (ap pattern_view shape ∙ view-Set ps place) ∙ ap (λ (xs : List Pattern). suc (nodes_in xs)) (sym same)

  pub nodes_of_sequence : p ≡ rust.Sequence ps place → nodes (pattern_view p) ≡ suc (nodes_in items)
  nodes_of_sequence shape = ap nodes (ap pattern_view shape ∙ view-Sequence ps place) ∙ ap (λ (xs : List Pattern). suc (nodes_in xs)) (sym same)

  pub nodes_of_tuple : p ≡ rust.Tuple ps place → nodes (pattern_view p) ≡ suc (nodes_in items)
  nodes_of_tuple shape = ap nodes (ap pattern_view shape ∙ view-Tuple ps place) ∙ ap (λ (xs : List Pattern). suc (nodes_in xs)) (sym same)

  pub nodes_of_concatenation : p ≡ rust.Concatenation ps place → nodes (pattern_view p) ≡ suc (nodes_in items)
  nodes_of_concatenation shape =
      ap nodes (ap pattern_view shape ∙ view-Concatenation ps place) ∙ ap (λ (xs : List Pattern). suc (nodes_in xs)) (sym same)

  pub nodes_of_record : (t : TypeName) → p ≡ rust.Record t ps place → nodes (pattern_view p) ≡ suc (nodes_in items)
  nodes_of_record t shape = ap nodes (ap pattern_view shape ∙ view-Record t ps place) ∙ ap (λ (xs : List Pattern). suc (nodes_in xs)) (sym same)

pub nodes_of_map : (p : Pattern) (place : Place) (ms : Vec MapletPattern Global) (items : List MapletPattern) → items ≡ ms.items → p ≡ rust.Map ms place
    → nodes (pattern_view p) ≡ suc (nodes_among items)
nodes_of_map p place ms items same shape =
    ap nodes (ap pattern_view shape ∙ view-Map ms place) ∙ ap (λ (xs : List MapletPattern). suc (nodes_among xs)) (sym same)
