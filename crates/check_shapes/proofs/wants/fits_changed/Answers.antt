use Rattle.std.proofs.Common.{◌≡◌, ◌-◌, length, subst, arith, IfOk}
use Rattle.class_checks.specs.Shapes.{Want, fits}
use Rattle.check_fields.specs.Below.check_scopes.specs.Told.{spec_in}
use Rattle.check_shapes.specs.ShapeView.{names_of}
use Rattle.check_shapes.proofs.Places.{target_first}
use Rattle.check_shapes.proofs.wants.fits_changed.Goals as goal

pub returns : goal.returns
returns c =
    subst (λ (w : Want). IfOk c.fits_value.result (λ b. b ≡ fits (spec_in c.args.setting) w c.args.form.now))
    (target_first (spec_in c.args.setting) (names_of c.args.fields.now) c.args.done.now c.index-done-0.result (length c.args.done.now - 1)
    c.index-done-0.is (omega (arith, c.if-count-lt1.false)))
    c.fits_value.ensures
