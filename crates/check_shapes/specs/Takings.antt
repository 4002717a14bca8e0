-- What is taken of each alternative of a form, as the program names it.
use Rattle.std.specs.Prelude.{Bool}
use Rattle.abstract_syntax.specs.Classes.{SpecTree}
use Rattle.form_meaning.specs.Forms.{FormTree, AltTree}
use Rattle.class_checks.specs.Shapes.{changed_field, has_all, has_part, kept, part_numbered}
use Rattle.check_shapes.specs.ShapeView.{names_of}
use Rattle.check_shapes.specs.declared.taking.Taking.{Taking}
use Rattle.check_shapes.specs.declared.taking.Taking.TheVariants.{Numbered, Kept, Field}

abbrev pub take_by : SpecTree → Taking → AltTree → FormTree
take_by spec (Numbered number) = part_numbered number
take_by spec (Kept fields) = kept spec (names_of fields.now)
take_by spec (Field fields field) = changed_field spec (names_of fields.now) field

-- of which alternatives there is something to take
abbrev pub fits_by : SpecTree → Taking → AltTree → Bool
fits_by spec (Numbered number) = has_part number
fits_by spec (Kept fields) = has_all spec (names_of fields.now)
fits_by spec (Field fields field) = has_all spec (names_of fields.now)
