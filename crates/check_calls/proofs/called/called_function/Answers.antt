use Rattle.class_checks.specs.Members.{unseen}
use Rattle.check_fields.specs.Below.check_scopes.specs.Told.{first_in, scope_at, spec_in}
use Rattle.check_names.proofs.Notes.{if_ok}
use Rattle.check_calls.proofs.called.called_function.Goals as goal

pub returns : goal.returns
returns c = if_ok c.function_callee.result c.function_callee.ensures (λ callee is names. is (first_in c.args.refusals.now) _
    (unseen (spec_in c.args.setting) (scope_at c.args.setting names) c.args.name_place c.args.owner.number c.args.function.now.access) (c.unseen-hidden.ensures names))
