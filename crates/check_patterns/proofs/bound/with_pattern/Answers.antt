use Rattle.std.proofs.Common.{rules}
use Rattle.check_types.specs.Below.check_scopes.specs.Told.{spec_in, types_in}
use Rattle.check_patterns.proofs.Shapes.{set_binds, sequence_binds, fronts_bind, tuple_binds, record_binds, map_binds, name_binds}
use Rattle.check_patterns.proofs.Waiting.{same_found}
use Rattle.check_patterns.proofs.bound.with_pattern.Goals as goal

pub returns-in-Map : goal.returns-in-Map
returns-in-Map c =
    same_found (spec_in c.args.setting) (types_in c.args.setting) c.with_map.result c.args.binding _ _
    (map_binds (spec_in c.args.setting) (types_in c.args.setting) c.args.pattern.now c.in-Map.field-1 c.args.form c.in-Map.maplets c.as_slice.result.now c.as_slice.ensures.value c.in-Map.is)
    c.with_map.ensures

pub returns-in-Set : goal.returns-in-Set
returns-in-Set c =
    same_found (spec_in c.args.setting) (types_in c.args.setting) c.put.result c.args.binding _ _
    (set_binds (spec_in c.args.setting) (types_in c.args.setting) c.args.pattern.now c.in-Set.field-1 c.args.form c.in-Set.parts c.as_slice-in-Set.result.now c.as_slice-in-Set.ensures.value c.in_ok-elements-in-Set.elements c.in-Set.is c.in_ok-elements-in-Set.ensures)
    (c.put.ensures.only (spec_in c.args.setting) (types_in c.args.setting))

pub returns-in-Sequence : goal.returns-in-Sequence
returns-in-Sequence c =
    same_found (spec_in c.args.setting) (types_in c.args.setting) c.put-in-Sequence.result c.args.binding _ _
    (sequence_binds (spec_in c.args.setting) (types_in c.args.setting) c.args.pattern.now c.in-Sequence.field-1 c.args.form c.in-Sequence.parts c.as_slice-in-Sequence.result.now c.as_slice-in-Sequence.ensures.value c.in_ok-items-in-Sequence.items c.in-Sequence.is c.in_ok-items-in-Sequence.ensures)
    (c.put-in-Sequence.ensures.only (spec_in c.args.setting) (types_in c.args.setting))

pub returns-in-Concatenation : goal.returns-in-Concatenation
returns-in-Concatenation c =
    same_found (spec_in c.args.setting) (types_in c.args.setting) c.put-in-Concatenation.result c.args.binding _ _
    (fronts_bind (spec_in c.args.setting) (types_in c.args.setting) c.args.pattern.now c.in-Concatenation.field-1 c.args.form c.in-Concatenation.parts c.as_slice-in-Concatenation.result.now c.as_slice-in-Concatenation.ensures.value c.in_ok-fronts-in-Concatenation.fronts c.in-Concatenation.is c.in_ok-fronts-in-Concatenation.ensures)
    (c.put-in-Concatenation.ensures.only (spec_in c.args.setting) (types_in c.args.setting))

pub returns-in-Tuple : goal.returns-in-Tuple
returns-in-Tuple c =
    same_found (spec_in c.args.setting) (types_in c.args.setting) c.put-in-Tuple.result c.args.binding _ _
    (tuple_binds (spec_in c.args.setting) (types_in c.args.setting) c.args.pattern.now c.in-Tuple.field-1 c.args.form c.in-Tuple.parts c.as_slice-in-Tuple.result.now c.as_slice-in-Tuple.ensures.value c.len.result c.in-Tuple.is (search (rules, c.len.ensures)))
    (c.put-in-Tuple.ensures.only (spec_in c.args.setting) (types_in c.args.setting))

pub returns-in-Bound : goal.returns-in-Bound
returns-in-Bound c =
    same_found (spec_in c.args.setting) (types_in c.args.setting) c.with_name.result c.args.binding _ _
    (name_binds (spec_in c.args.setting) (types_in c.args.setting) c.args.pattern.now c.in-Bound.field-1 c.args.form c.in-Bound.name c.in-Bound.is)
    (c.with_name.ensures (spec_in c.args.setting) (types_in c.args.setting))

pub returns : goal.returns
returns c =
    same_found (spec_in c.args.setting) (types_in c.args.setting) c.put-in-Record.result c.args.binding _ _
    (record_binds (spec_in c.args.setting) (types_in c.args.setting) c.args.pattern.now c.in-Record.field-2 c.args.form c.in-Record.parts c.as_slice-in-Record.result.now c.as_slice-in-Record.ensures.value
    c.in-Record.type_name c.in_ok-forms-in-Record.forms.items c.in-Record.is c.in_ok-forms-in-Record.ensures)
    (c.put-in-Record.ensures.only (spec_in c.args.setting) (types_in c.args.setting))
