use Rattle.std.proofs.Common.{Bool, not, ℕ, Option, Some, ap, sym, ◌∙◌}
use Rattle.vdm_kinds.specs.declared.spec_kind.SpecKind.TheVariants.{NoCommonValue}
use Rattle.class_checks.specs.Callees.{class_callee, in_object_class, only_selected}
use Rattle.class_checks.specs.Results.{first_among, refused_if}
use Rattle.class_checks.specs.TypeNames.{meets}
use Rattle.check_fields.specs.Below.check_scopes.specs.Told.{first_in, scope_at, spec_in}
use Rattle.form_meaning.specs.Forms.{object_alt, only}
use Rattle.check_calls.specs.Calling.{called}
use Rattle.check_calls.specs.Selecting.{shown_of, use_view}
use Rattle.check_calls.proofs.Selections.{too_calls}
use Rattle.check_calls.proofs.selection.of_known_class.Goals as goal

pub returns : goal.returns
returns c =
    λ names k e. let spec = spec_in c.args.setting in
    let scope = scope_at c.args.setting names in
    ap (λ (o : Option ℕ). called (first_in c.args.refusals.now) (class_callee spec scope (use_view c.args.way) c.args.target_place c.args.class.name c.args.class.place c.args.named.name
    c.args.named.place c.args.form.now o)) e
    ∙ too_calls (first_in c.args.refusals.now) _ _ c.only_selected.result
    (refused_if (not (meets spec c.args.form.now (only (object_alt c.args.class.name)))) NoCommonValue c.args.target_place)
    (only_selected (in_object_class spec scope (use_view c.args.way) c.args.named.name c.args.named.place (Some k)))
    (c.refuse_if.ensures
    ∙ ap (λ (b : Bool). first_among (first_in c.args.refusals.now) (refused_if (not b) NoCommonValue c.args.target_place))
    (c.meets-fits.ensures ∙ ap (meets spec c.args.form.now) c.in_ok-wanted.ensures))
    (c.only_selected.ensures (in_object_class spec scope (use_view c.args.way) c.args.named.name c.args.named.place (Some k))
    (ap (λ (o : Option ℕ). shown_of (in_object_class spec scope (use_view c.args.way) c.args.named.name c.args.named.place o)) (sym e)
    ∙ c.in_ok-selected.ensures names))
