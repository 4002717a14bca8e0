use Rattle.std.proofs.Common.{ap, ◌∙◌}
use Rattle.check_fields.specs.Below.check_scopes.specs.Told.{spec_in}
use Rattle.type_forms.specs.Tree.{form_trees}
use Rattle.check_calls.proofs.Callees.{forms_listed}
use Rattle.check_names.proofs.Notes.{if_ok}
use Rattle.check_calls.proofs.callee.parameter_forms.Goals as goal

pub returns : goal.returns
returns c =
    if_ok c.each_form.result c.each_form.ensures
    (λ wants is. ap form_trees is ∙ forms_listed (spec_in c.args.setting) c.args.owner.number c.args.parameters.now)
