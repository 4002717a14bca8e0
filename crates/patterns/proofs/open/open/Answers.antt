use Rattle.std.proofs.Common.{◌≡◌, ap, ◌∙◌, map}
use Rattle.abstract_syntax.specs.Expressions.{any_value, bound, literal_pattern, equal_to, set_pattern, sequence_pattern, map_pattern, empty_map_pattern, tuple_pattern, record_pattern, concatenation_pattern}
use Rattle.type_tree.specs.LiteralView.{literal_view}
use Rattle.expr_tree.specs.View.{view_of, pattern_view, pattern_views, pattern_trees, maplet_pattern_view, maplet_pattern_trees}
use Rattle.patterns.proofs.Views.{view_of-AnyValue, view_of-Bound, view_of-Literal, view_of-EqualTo, view_of-Set, view_of-Sequence, view_of-Map, view_of-EmptyMap, view_of-Tuple, view_of-Record, view_of-Concatenation}
use Rattle.patterns.proofs.Opening.{opens_any, opens_name, opens_literal, opens_equal, opens_set, opens_sequence, opens_map, opens_empty, opens_tuple, opens_record, opens_fronts}
use Rattle.patterns.proofs.open.open.Goals as goal

pub returns-in-AnyValue : goal.returns-in-AnyValue
returns-in-AnyValue g c =
    let e : pattern_view c.args.pattern.now ≡ any_value c.in-AnyValue.field-0 = ap pattern_view c.in-AnyValue.is ∙ view_of-AnyValue _ in opens_any _ _ _ _ e

pub returns-in-Bound : goal.returns-in-Bound
returns-in-Bound g c =
    let e : pattern_view c.args.pattern.now ≡ bound c.in-Bound.name c.in-Bound.field-1 = ap pattern_view c.in-Bound.is ∙ view_of-Bound _ _ in opens_name _ _ _ _ c.args.subject e

pub returns-in-Literal : goal.returns-in-Literal
returns-in-Literal g c =
    let e : pattern_view c.args.pattern.now ≡ literal_pattern (literal_view c.in-Literal.literal) c.in-Literal.field-1 = ap pattern_view c.in-Literal.is ∙ view_of-Literal _ _ in
    opens_literal _ _ _ _ _ _ e (c.open_literal.ensures _)

pub returns-in-EqualTo : goal.returns-in-EqualTo
returns-in-EqualTo g c =
    let e : pattern_view c.args.pattern.now ≡ equal_to (view_of c.in-EqualTo.field-0.value) c.in-EqualTo.field-1 = ap pattern_view c.in-EqualTo.is ∙ view_of-EqualTo _ _ in
    opens_equal _ _ _ _ c.args.subject e

pub returns-in_ok-open_set-in-Set : goal.returns-in_ok-open_set-in-Set
returns-in_ok-open_set-in-Set g c =
    let e : pattern_view c.args.pattern.now ≡ set_pattern (pattern_trees (pattern_views c.in-Set.parts.items)) c.in-Set.field-1 = ap pattern_view c.in-Set.is ∙ view_of-Set _ _ in
    opens_set _ _ _ _ _ _ _ _ e c.as_slice.ensures.value c.elements.ensures (c.in_ok-open_set-in-Set.ensures _)

pub returns-in-Sequence : goal.returns-in-Sequence
returns-in-Sequence g c =
    let e : pattern_view c.args.pattern.now ≡ sequence_pattern (pattern_trees (pattern_views c.in-Sequence.parts.items)) c.in-Sequence.field-1 = ap pattern_view c.in-Sequence.is ∙ view_of-Sequence _ _ in
    opens_sequence _ _ _ _ _ _ _ _ e c.as_slice-in-Sequence.ensures.value c.items.ensures (c.open_items.ensures _)

pub returns-in_ok-open_map-in-Map : goal.returns-in_ok-open_map-in-Map
returns-in_ok-open_map-in-Map g c =
    let e : pattern_view c.args.pattern.now ≡ map_pattern (maplet_pattern_trees (map maplet_pattern_view c.in-Map.maplets.items)) c.in-Map.field-1 = ap pattern_view c.in-Map.is ∙ view_of-Map _ _ in
    opens_map _ _ _ _ _ _ _ _ e c.as_slice-in-Map.ensures.value c.entries.ensures (c.in_ok-open_map-in-Map.ensures _)

pub returns-in-EmptyMap : goal.returns-in-EmptyMap
returns-in-EmptyMap g c =
    let e : pattern_view c.args.pattern.now ≡ empty_map_pattern c.in-EmptyMap.field-0 = ap pattern_view c.in-EmptyMap.is ∙ view_of-EmptyMap _ in
    opens_empty _ _ _ _ _ _ e c.entries-in-EmptyMap.ensures (c.open_empty.ensures _)

pub returns-in-Tuple : goal.returns-in-Tuple
returns-in-Tuple g c =
    let e : pattern_view c.args.pattern.now ≡ tuple_pattern (pattern_trees (pattern_views c.in-Tuple.parts.items)) c.in-Tuple.field-1 = ap pattern_view c.in-Tuple.is ∙ view_of-Tuple _ _ in
    opens_tuple _ _ _ _ _ _ _ _ e c.as_slice-in-Tuple.ensures.value c.components.ensures (c.open_items-in-Tuple.ensures _)

pub returns-in_ok-found-in-Record : goal.returns-in_ok-found-in-Record
returns-in_ok-found-in-Record g c =
    let e : pattern_view c.args.pattern.now ≡ record_pattern c.in-Record.type_name (pattern_trees (pattern_views c.in-Record.parts.items)) c.in-Record.field-2 = ap pattern_view c.in-Record.is ∙ view_of-Record _ _ _ in
    opens_record _ _ _ _ _ _ _ _ _ _ e c.as_slice-in-Record.ensures.value c.in_ok-found-in-Record.ensures c.fields.ensures (c.open_items-in-Record.ensures _)

pub returns-in-Concatenation : goal.returns-in-Concatenation
returns-in-Concatenation g c =
    let e : pattern_view c.args.pattern.now ≡ concatenation_pattern (pattern_trees (pattern_views c.in-Concatenation.parts.items)) c.in-Concatenation.field-1 = ap pattern_view c.in-Concatenation.is ∙ view_of-Concatenation _ _ in
    opens_fronts _ _ _ _ _ _ _ _ e c.as_slice-in-Concatenation.ensures.value c.items-in-Concatenation.ensures (c.open_fronts.ensures _)
