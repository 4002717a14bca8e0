use Rattle.std.proofs.Common.{◌∙◌, ap}
use Rattle.class_checks.specs.TypeNames.{meets}
use Rattle.check_fields.specs.Below.check_scopes.specs.Told.{spec_in}
use Rattle.check_shapes.proofs.wants.fits_operand.Goals as goal

pub returns : goal.returns
returns c = c.is_like.ensures ∙ ap (meets (spec_in c.args.setting) c.args.form.now) (c.operand_want.ensures)
