use Rattle.std.proofs.Common.{ap, sym, ◌∙◌}
use Rattle.vdm_kinds.specs.declared.name.Name.{Name}
use Rattle.type_tree.specs.TypeView.{type_view}
use Rattle.class_checks.specs.Expressions.{want_faults}
use Rattle.class_checks.specs.Results.{first_among}
use Rattle.class_checks.specs.TypeNames.{form_of, type_faults}
use Rattle.check_steps.specs.Below.check_scopes.specs.Told.{first_among-++, first_in, spec_in, types_in}
use Rattle.check_binds.proofs.definitions.declared_faults.Goals as goal

pub returns : goal.returns
returns c =
    let declared = type_view c.args.declared.now in
    let spec = spec_in c.args.here.setting in
    let faults = type_faults spec (types_in c.args.here.setting) declared in
    c.want_like.ensures
    ∙ (λ i. first_among (c.type_faults.ensures i) (want_faults spec ((c.in_ok-wanted.ensures ∙ ap (λ (n : Name). form_of spec n declared) c.type_scope.ensures) i) c.args.place c.args.form.now))
    ∙ sym (first_among-++ (first_in c.args.refusals.now) faults (want_faults spec (form_of spec (types_in c.args.here.setting) declared) c.args.place c.args.form.now))
