use Rattle.std.proofs.Common.{arith, rules}
use Rattle.expr_tree.specs.View.{pattern_view}
use Rattle.expr_tree.specs.declared.pattern.MapletPattern.{the_lemmas}
use Rattle.check_types.specs.Below.check_scopes.specs.Told.{first_in, spec_in, types_in}
use Rattle.check_patterns.proofs.PatternSizes.{nodes_of_set, nodes_of_sequence, nodes_of_tuple, nodes_of_concatenation, nodes_of_record, nodes_of_map, nodes_of_one, nodes_of_key, nodes_of_value}
use Rattle.check_patterns.proofs.RefusedTurns.{pattern_turn, patterns_end, maplet_turn, maplets_end, record_told}
use Rattle.check_patterns.proofs.refused.+refusing.Goals as goal

pub refuse_each-loop-pattern-preserved : goal.refuse_each-loop-pattern-preserved
refuse_each-loop-pattern-preserved t c =
    pattern_turn (spec_in c.args.setting) (types_in c.args.setting) c.args.patterns.now c.loop-pattern.pattern-index c.pattern-item.result
    (first_in c.loop-pattern.now) (first_in c.in_ok-now.now) _ c.pattern-item.is c.loop-pattern-test.true c.in_ok-now.ensures c.loop-pattern.invariant

pub refuse_each-returns : goal.refuse_each-returns
refuse_each-returns t c =
    patterns_end (spec_in c.args.setting) (types_in c.args.setting) c.args.patterns.now c.loop-pattern.pattern-index (first_in c.loop-pattern.now) _
    (omega (arith, c.loop-pattern-test.false)) c.loop-pattern.invariant

pub refuse_pairs-returns : goal.refuse_pairs-returns
refuse_pairs-returns t c =
    maplets_end (spec_in c.args.setting) (types_in c.args.setting) c.args.maplets.now c.loop-maplet.maplet-index (first_in c.loop-maplet.now) _
    (omega (arith, c.loop-maplet-test.false)) c.loop-maplet.invariant

pub refuse-refuse_each-requires : goal.refuse-refuse_each-requires
refuse-refuse_each-requires t c =
    (omega (arith, nodes_of_set c.args.pattern.now c.in-Set.field-1 c.in-Set.parts c.as_slice.result.now c.as_slice.ensures.value c.in-Set.is), tt)

pub refuse-refuse_each-requires-in-Sequence : goal.refuse-refuse_each-requires-in-Sequence
refuse-refuse_each-requires-in-Sequence t c =
    (omega (arith, nodes_of_sequence c.args.pattern.now c.in-Sequence.field-1 c.in-Sequence.parts c.as_slice-in-Sequence.result.now c.as_slice-in-Sequence.ensures.value c.in-Sequence.is), tt)

pub refuse-refuse_each-requires-in-Tuple : goal.refuse-refuse_each-requires-in-Tuple
refuse-refuse_each-requires-in-Tuple t c =
    (omega (arith, nodes_of_tuple c.args.pattern.now c.in-Tuple.field-1 c.in-Tuple.parts c.as_slice-in-Tuple.result.now c.as_slice-in-Tuple.ensures.value c.in-Tuple.is), tt)

pub refuse-refuse_each-requires-in-Concatenation : goal.refuse-refuse_each-requires-in-Concatenation
refuse-refuse_each-requires-in-Concatenation t c =
    (omega (arith, nodes_of_concatenation c.args.pattern.now c.in-Concatenation.field-1 c.in-Concatenation.parts c.as_slice-in-Concatenation.result.now c.as_slice-in-Concatenation.ensures.value c.in-Concatenation.is), tt)

pub refuse-refuse_each-requires-in-Record : goal.refuse-refuse_each-requires-in-Record
refuse-refuse_each-requires-in-Record t c = (
  omega (
    arith,
    nodes_of_record c.args.pattern.now c.in-Record.place c.in-Record.parts c.as_slice-in-Record-2.result.now c.as_slice-in-Record-2.ensures.value
        c.in-Record.name c.in-Record.is,
  ),
  tt,
)

pub refuse-refuse_pairs-requires : goal.refuse-refuse_pairs-requires
refuse-refuse_pairs-requires t c =
    (omega (arith, nodes_of_map c.args.pattern.now c.in-Map.field-1 c.in-Map.maplets c.as_slice-in-Map.result.now c.as_slice-in-Map.ensures.value c.in-Map.is), tt)

pub refuse_each-refuse-requires : goal.refuse_each-refuse-requires
refuse_each-refuse-requires t c =
    (omega (arith, nodes_of_one c.args.patterns.now c.loop-pattern.pattern-index c.pattern-item.result c.pattern-item.is c.loop-pattern-test.true), tt)

pub refuse_pairs-refuse-requires : goal.refuse_pairs-refuse-requires
refuse_pairs-refuse-requires t c = (
  omega (
    arith,
    nodes_of_key c.args.maplets.now c.loop-maplet.maplet-index c.maplet-item.result (pattern_view c.as_ref.result.now) c.maplet-item.is
        c.loop-maplet-test.true (search (rules, the_lemmas, c.as_ref.ensures)),
  ),
  tt,
)

pub refuse_pairs-refuse-requires-in-loop-maplet : goal.refuse_pairs-refuse-requires-in-loop-maplet
refuse_pairs-refuse-requires-in-loop-maplet t c = (
  omega (
    arith,
    nodes_of_value c.args.maplets.now c.loop-maplet.maplet-index c.maplet-item.result (pattern_view c.as_ref-in-loop-maplet.result.now)
        c.maplet-item.is c.loop-maplet-test.true (search (rules, the_lemmas, c.as_ref-in-loop-maplet.ensures)),
  ),
  tt,
)

pub refuse-returns-in_ok-now-in-Record : goal.refuse-returns-in_ok-now-in-Record
refuse-returns-in_ok-now-in-Record t c =
    record_told (spec_in c.args.setting) (types_in c.args.setting) c.refuse_each-in-Record.result c.args.pattern.now c.in-Record.name c.in-Record.parts
    c.in-Record.place c.as_slice-in-Record.result.now c.as_slice-in-Record-2.result.now (first_in c.args.refusals) (first_in c.in_ok-now-in-Record.now)
    c.in-Record.is c.as_slice-in-Record.ensures.value c.as_slice-in-Record-2.ensures.value c.in_ok-now-in-Record.ensures c.refuse_each-in-Record.ensures

pub refuse_pairs-loop-maplet-preserved : goal.refuse_pairs-loop-maplet-preserved
refuse_pairs-loop-maplet-preserved t c =
    maplet_turn (spec_in c.args.setting) (types_in c.args.setting) c.args.maplets.now c.loop-maplet.maplet-index c.maplet-item.result
    (pattern_view c.as_ref.result.now) (pattern_view c.as_ref-in-loop-maplet.result.now)
    (first_in c.loop-maplet.now) (first_in c.in_ok-now.now) (first_in c.in_ok-now-2.now) _ c.maplet-item.is c.loop-maplet-test.true
    (search (rules, the_lemmas, c.as_ref.ensures)) (search (rules, the_lemmas, c.as_ref-in-loop-maplet.ensures))
    c.in_ok-now.ensures c.in_ok-now-2.ensures c.loop-maplet.invariant
