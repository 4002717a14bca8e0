use Rattle.std.proofs.Common.{◌≡◌, drop}
use Rattle.form_meaning.specs.Forms.{no_form}
use Rattle.form_meaning.specs.Parts.{taken_of}
use Rattle.type_forms.specs.Tree.{alt_trees}
use Rattle.check_fields.specs.Below.check_scopes.specs.Told.{spec_in}
use Rattle.check_shapes.specs.Takings.{take_by}
use Rattle.check_shapes.proofs.taking.all_taken.Given as goal

abbrev pub invariant-loop-alternative : goal.invariant-loop-alternative
invariant-loop-alternative l =
    taken_of (take_by (spec_in l.setting) l.taking) l.known (alt_trees (drop l.alternative-index l.alternatives))
    ≡ taken_of (take_by (spec_in l.setting) l.taking) no_form (alt_trees l.alternatives)
