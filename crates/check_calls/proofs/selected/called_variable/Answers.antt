use Rattle.std.proofs.Common.{List, ap, sym, ◌∙◌}
use Rattle.form_meaning.specs.Forms.{FormTree}
use Rattle.vdm_kinds.specs.declared.spec_fault.SpecFault.{SpecFault}
use Rattle.class_checks.specs.Callees.{selected, value_callee}
use Rattle.class_checks.specs.Members.{other_faults}
use Rattle.class_checks.specs.TypeNames.{form_of}
use Rattle.class_meaning.specs.Classes.{name_of_class}
use Rattle.check_fields.specs.Below.check_scopes.specs.Told.{scope_at, spec_in}
use Rattle.type_tree.specs.TypeView.{type_view}
use Rattle.check_names.specs.Noting.{Note, noted_as}
use Rattle.check_calls.specs.Selecting.{shown_of}
use Rattle.check_names.proofs.Notes.{if_ok}
use Rattle.check_calls.proofs.Selections.{form_kept, may_be, may_not}
use Rattle.check_calls.proofs.selected.called_variable.Goals as goal

pub returns-then-spoiled : goal.returns-then-spoiled
returns-then-spoiled c =
    λ names. let refused : List SpecFault =
    other_faults (spec_in c.args.setting) (scope_at c.args.setting names) c.args.name_place c.args.owner.number c.args.variable.now.access in
    may_not _ refused _ (c.noted_of-spoiled.ensures names ∙ ap (noted_as _) c.if-spoiled.true)

pub returns : goal.returns
returns c =
    if_ok c.looked_up_behind.result c.looked_up_behind.ensures (λ selection is names.
    let spec = spec_in c.args.setting in
    let refused : List SpecFault =
    other_faults spec (scope_at c.args.setting names) c.args.name_place c.args.owner.number c.args.variable.now.access in
    let noted = c.noted_of-spoiled.ensures names ∙ ap (noted_as _) c.if-spoiled.false in
    let form : FormTree = form_of spec (name_of_class spec c.args.owner.number) (type_view c.args.variable.now.declared) in
    may_be _ refused (value_callee spec refused form c.args.call.head_place c.args.call.count c.args.call.place) noted
    ∙ ap (λ (f : FormTree). shown_of (selected (value_callee spec refused f c.args.call.head_place c.args.call.count c.args.call.place)))
    (sym c.in_ok-form.ensures)
    ∙ is refused (ap (λ (n : Note). n.first) noted) (form_kept _ refused c.in_ok-form.form noted))
