use Rattle.std.proofs.Common.{◌∙◌, ap, Some, None}
use Rattle.class_checks.specs.TypeNames.{meets}
use Rattle.check_fields.specs.Below.check_scopes.specs.Told.{spec_in}
use Rattle.check_shapes.proofs.AnyForm.{any_met}
use Rattle.check_shapes.proofs.Places.{want_lookup}
use Rattle.check_shapes.proofs.wants.fits_argument.Goals as goal

pub returns-in-Some : goal.returns-in-Some
returns-in-Some c =
    c.meets.ensures
    ∙ ap (meets (spec_in c.args.setting) c.args.form.now) (want_lookup c.args.wants.now c.args.others (Some c.in-Some.wanted) c.in-Some.ensures.lookup)

pub returns-in-None : goal.returns-in-None
returns-in-None c =
    any_met (spec_in c.args.setting) c.args.form.now
    ∙ ap (meets (spec_in c.args.setting) c.args.form.now) (want_lookup c.args.wants.now c.args.others None c.in-None.ensures.lookup)
