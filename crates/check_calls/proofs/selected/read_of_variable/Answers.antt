use Rattle.std.proofs.Common.{List, None, false, ap, ◌∙◌}
use Rattle.vdm_kinds.specs.declared.spec_fault.SpecFault.{SpecFault}
use Rattle.form_meaning.specs.Forms.{no_forms}
use Rattle.class_checks.specs.Members.{other_faults}
use Rattle.check_fields.specs.Below.check_scopes.specs.Told.{scope_at, spec_in}
use Rattle.check_names.specs.Noting.{noted_as}
use Rattle.check_calls.proofs.Callees.{calls_of}
use Rattle.check_calls.proofs.Selections.{may, may_not}
use Rattle.check_calls.proofs.selected.read_of_variable.Goals as goal

pub returns-then-spoiled : goal.returns-then-spoiled
returns-then-spoiled c =
    λ names. let refused : List SpecFault =
    other_faults (spec_in c.args.setting) (scope_at c.args.setting names) c.args.name_place c.args.owner.number c.args.variable.now.access in
    may_not _ refused _ (c.noted_of-spoiled.ensures names ∙ ap (noted_as _) c.if-spoiled.true)

pub returns : goal.returns
returns c =
    λ names. let refused : List SpecFault =
    other_faults (spec_in c.args.setting) (scope_at c.args.setting names) c.args.name_place c.args.owner.number c.args.variable.now.access in
    let noted = c.noted_of-spoiled.ensures names ∙ ap (noted_as _) c.if-spoiled.false in
    may _ refused _ c.of_any_arguments.result noted
    (calls_of None _ false refused no_forms _ c.of_any_arguments.result noted c.of_any_arguments.ensures.wants
    (c.of_any_arguments.ensures.form ∙ c.in_ok-form.ensures))
