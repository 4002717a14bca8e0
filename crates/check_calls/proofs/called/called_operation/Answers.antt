use Rattle.class_checks.specs.Members.{operation_faults}
use Rattle.check_fields.specs.Below.check_scopes.specs.Told.{first_in, scope_at, spec_in}
use Rattle.check_names.proofs.Notes.{if_ok}
use Rattle.check_calls.proofs.called.called_operation.Goals as goal

pub returns : goal.returns
returns c = if_ok c.operation_callee.result c.operation_callee.ensures (λ callee is names. is (first_in c.args.refusals.now) _
    (operation_faults (spec_in c.args.setting) (scope_at c.args.setting names) c.args.name_place c.args.own c.args.owner.number c.args.operation.now.access) (c.operation_faults-spoiled.ensures names))
