-- The pure tree of each kind of pattern.
use Rattle.std.proofs.Common.{◌≡◌, ◌-◌, ◌<◌, ◌≤◌, List, length, take, drop, get_or, rules, refl, ap, ◌∙◌, sym, map}
use Rattle.abstract_syntax.specs.Expressions.{PatternTree, any_value, bound, literal_pattern, equal_to, set_pattern, sequence_pattern, map_pattern, empty_map_pattern, tuple_pattern, record_pattern, concatenation_pattern, no_patterns, one_pattern, no_maplet_patterns, one_maplet_pattern}
use Rattle.expr_tree.specs.declared.pattern.Pattern as rust
use Rattle.expr_tree.specs.declared.pattern.Pattern.{Pattern, the_lemmas}
use Rattle.expr_tree.specs.declared.pattern.MapletPattern.{MapletPattern}
use Rattle.expr_tree.specs.declared.pattern.Pattern.TheVariants.{rolls-AnyValue, rolls-Bound, rolls-Literal, rolls-EqualTo, rolls-Set, rolls-Sequence, rolls-Map, rolls-EmptyMap, rolls-Tuple, rolls-Record, rolls-Concatenation}
use Rattle.patterns.proofs.Picked.{headed_slice, no_items}
use Rattle.type_tree.specs.LiteralView.{literal_view}
use Rattle.expr_tree.specs.View.{view_of, pattern_view, pattern_views, pattern_trees, maplet_pattern_view, maplet_pattern_trees}

pub view_of-AnyValue : (place : _) → pattern_view (rust.AnyValue place) ≡ any_value place
view_of-AnyValue place = ap pattern_view (sym (rolls-AnyValue place)) ∙ search (rules, the_lemmas)

pub view_of-Bound : (name : _) (place : _) → pattern_view (rust.Bound name place) ≡ bound name place
view_of-Bound name place = ap pattern_view (sym (rolls-Bound name place)) ∙ search (rules, the_lemmas)

pub view_of-Literal : (l : _) (place : _) → pattern_view (rust.Literal l place) ≡ literal_pattern (literal_view l) place
view_of-Literal l place = ap pattern_view (sym (rolls-Literal l place)) ∙ search (rules, the_lemmas)

pub view_of-EqualTo : (inner : _) (place : _) → pattern_view (rust.EqualTo inner place) ≡ equal_to (view_of inner.value) place
view_of-EqualTo inner place = ap pattern_view (sym (rolls-EqualTo inner place)) ∙ search (rules, the_lemmas)

pub view_of-Set : (ps : _) (place : _) → pattern_view (rust.Set ps place) ≡ set_pattern (pattern_trees (pattern_views ps.items)) place
view_of-Set ps place = ap pattern_view (sym (rolls-Set ps place)) ∙ search (rules, the_lemmas)

pub view_of-Sequence : (ps : _) (place : _) → pattern_view (rust.Sequence ps place) ≡ sequence_pattern (pattern_trees (pattern_views ps.items)) place
view_of-Sequence ps place = ap pattern_view (sym (rolls-Sequence ps place)) ∙ search (rules, the_lemmas)

pub view_of-Map : (ms : _) (place : _) → pattern_view (rust.Map ms place) ≡ map_pattern (maplet_pattern_trees (map maplet_pattern_view ms.items)) place
view_of-Map ms place = ap pattern_view (sym (rolls-Map ms place)) ∙ search (rules, the_lemmas)

pub view_of-EmptyMap : (place : _) → pattern_view (rust.EmptyMap place) ≡ empty_map_pattern place
view_of-EmptyMap place = ap pattern_view (sym (rolls-EmptyMap place)) ∙ search (rules, the_lemmas)

pub view_of-Tuple : (ps : _) (place : _) → pattern_view (rust.Tuple ps place) ≡ tuple_pattern (pattern_trees (pattern_views ps.items)) place
view_of-Tuple ps place = ap pattern_view (sym (rolls-Tuple ps place)) ∙ search (rules, the_lemmas)

pub view_of-Record : (t : _) (ps : _) (place : _) → pattern_view (rust.Record t ps place) ≡ record_pattern t (pattern_trees (pattern_views ps.items)) place
view_of-Record t ps place = ap pattern_view (sym (rolls-Record t ps place)) ∙ search (rules, the_lemmas)

pub view_of-Concatenation : (ps : _) (place : _) → pattern_view (rust.Concatenation ps place) ≡ concatenation_pattern (pattern_trees (pattern_views ps.items)) place
view_of-Concatenation ps place = ap pattern_view (sym (rolls-Concatenation ps place)) ∙ search (rules, the_lemmas)

-- patterns with one at their head
pub view_headed : (ps : List Pattern) (p : Pattern) → 1 ≤ length ps → p ≡ get_or ps 0 p →
    pattern_trees (pattern_views ps) ≡ one_pattern (pattern_view p) (pattern_trees (pattern_views (take (length ps - 1) (drop 1 ps))))
view_headed ps p h e = ap (λ qs. pattern_trees (pattern_views qs)) (headed_slice ps p h e)

pub view_none : (ps : List Pattern) → length ps < 1 → pattern_trees (pattern_views ps) ≡ no_patterns
view_none ps h = ap (λ qs. pattern_trees (pattern_views qs)) (no_items ps h)

pub maplet_view-is : (m : MapletPattern) → maplet_pattern_view m ≡ record { key = (maplet_pattern_view m).key; value = (maplet_pattern_view m).value }
maplet_view-is m = refl

pub maplets_headed : (ms : List MapletPattern) (m : MapletPattern) (k v : PatternTree) → 1 ≤ length ms → m ≡ get_or ms 0 m →
    maplet_pattern_view m ≡ record { key = k; value = v } →
    maplet_pattern_trees (map maplet_pattern_view ms) ≡
    one_maplet_pattern k v (maplet_pattern_trees (map maplet_pattern_view (take (length ms - 1) (drop 1 ms))))
maplets_headed ms m k v h e d =
    ap (λ ns. maplet_pattern_trees (map maplet_pattern_view ns)) (headed_slice ms m h e) ∙
    ap (λ w. one_maplet_pattern w.key w.value (maplet_pattern_trees (map maplet_pattern_view (take (length ms - 1) (drop 1 ms))))) d

pub maplets_none : (ms : List MapletPattern) → length ms < 1 → maplet_pattern_trees (map maplet_pattern_view ms) ≡ no_maplet_patterns
maplets_none ms h = ap (λ ns. maplet_pattern_trees (map maplet_pattern_view ns)) (no_items ms h)
