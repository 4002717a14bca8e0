use Rattle.std.proofs.Common.{arith}
use Rattle.type_tree.specs.TypeView.{type_view}
use Rattle.class_checks.specs.TypeNames.{type_faults}
use Rattle.definition_scopes.specs.Below.check_scopes.specs.Told.{first_in, spec_in, types_in}
use Rattle.part_checks.specs.Behind.{each_past, each_turn}
use Rattle.part_checks.proofs.types.refuse_types.Goals as goal

pub loop-one-preserved : goal.loop-one-preserved
loop-one-preserved c =
    each_turn type_view (type_faults (spec_in c.args.setting) (types_in c.args.setting)) c.args.declared.now c.loop-one.one-index c.one-item.result
    (first_in c.loop-one.refusals) (first_in c.type_faults.new.refusals) _ c.one-item.is c.loop-one-test.true c.type_faults.ensures c.loop-one.invariant

pub returns : goal.returns
returns c =
    each_past type_view (type_faults (spec_in c.args.setting) (types_in c.args.setting)) c.args.declared.now c.loop-one.one-index (first_in c.loop-one.refusals) _
    (omega (arith, c.loop-one-test.false)) c.loop-one.invariant
