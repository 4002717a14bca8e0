use Rattle.class_checks.specs.Members.{variable_faults}
use Rattle.check_scopes.specs.Told.{first_in, scope_at, spec_in}
use Rattle.check_names.proofs.Notes.{if_ok, told_named}
use Rattle.check_names.proofs.names.read_variable.Goals as goal

pub returns : goal.returns
returns c = if_ok c.form_unless.result c.form_unless.ensures (λ form is names. told_named (first_in c.args.refusals.now) _ _
    (variable_faults (spec_in c.args.setting) (scope_at c.args.setting names) c.args.place c.args.own c.args.owner.number c.args.variable.now.access) _ _ (c.variable_faults-spoiled.ensures names) is)
