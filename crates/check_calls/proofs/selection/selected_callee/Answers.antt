use Rattle.std.proofs.Common.{[], false, refl, ap, ◌∙◌}
use Rattle.form_meaning.specs.Forms.{any_form, no_forms}
use Rattle.check_fields.specs.Below.check_scopes.specs.Told.{first_in, scope_at, spec_in}
use Rattle.type_forms.specs.Tree.{tree_of}
use Rattle.check_calls.specs.Selecting.{use_view}
use Rattle.check_calls.proofs.Callees.{calls_of}
use Rattle.check_calls.proofs.Selections.{selected_known}
use Rattle.check_calls.proofs.selection.selected_callee.Goals as goal

pub returns-in-Any : goal.returns-in-Any
returns-in-Any c =
    λ names. selected_known (spec_in c.args.setting) (scope_at c.args.setting names) (use_view c.args.way) c.args.target_place c.args.named.name
    c.args.named.place c.args.form.now any_form (first_in c.args.refusals.now) (first_in c.args.refusals.now) c.of_any_arguments.result
    (c.node.ensures ∙ ap tree_of c.in-Any.is)
    (calls_of (first_in c.args.refusals.now) (first_in c.args.refusals.now) false [] no_forms any_form c.of_any_arguments.result refl
    c.of_any_arguments.ensures.wants (c.of_any_arguments.ensures.form ∙ c.any.ensures))
