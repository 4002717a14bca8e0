use Rattle.std.proofs.Common.{arith}
use Rattle.abstract_syntax.specs.Classes.{FieldTree}
use Rattle.expr_tree.specs.TypeDefView.{field_view}
use Rattle.class_checks.specs.TypeNames.{type_faults}
use Rattle.part_checks.specs.Below.check_scopes.specs.Told.{first_in, spec_in, types_in}
use Rattle.part_checks.specs.Behind.{each_past, each_turn}
use Rattle.definition_checks.proofs.type_defs.refuse_fields.Goals as goal

pub loop-field-preserved : goal.loop-field-preserved
loop-field-preserved c =
    each_turn field_view (λ (f : FieldTree). type_faults (spec_in c.args.setting) (types_in c.args.setting) f.declared) c.args.fields.now c.loop-field.field-index
    c.field-item.result (first_in c.loop-field.refusals) (first_in c.type_faults.new.refusals) _ c.field-item.is c.loop-field-test.true c.type_faults.ensures
    c.loop-field.invariant

pub returns : goal.returns
returns c =
    each_past field_view (λ (f : FieldTree). type_faults (spec_in c.args.setting) (types_in c.args.setting) f.declared) c.args.fields.now c.loop-field.field-index
    (first_in c.loop-field.refusals) _ (omega (arith, c.loop-field-test.false)) c.loop-field.invariant
