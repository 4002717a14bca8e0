use Rattle.class_checks.specs.Members.{unseen}
use Rattle.check_scopes.specs.Told.{first_in, scope_at, spec_in}
use Rattle.check_names.proofs.Notes.{if_ok, told_named}
use Rattle.check_names.proofs.names.read_value.Goals as goal

pub returns : goal.returns
returns c = if_ok c.value_form.result c.value_form.ensures (λ form is names. told_named (first_in c.args.refusals.now) _ _
    (unseen (spec_in c.args.setting) (scope_at c.args.setting names) c.args.place c.args.owner.number c.args.value.now.access) _ _ (c.unseen-spoiled.ensures names) is)
