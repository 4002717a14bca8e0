use Rattle.std.proofs.Common.{◌≡◌, drop}
use Rattle.form_meaning.specs.Forms.{no_form}
use Rattle.form_meaning.specs.Parts.{taken_of}
use Rattle.spec_checks.specs.Targets.{field_taken}
use Rattle.type_forms.specs.Tree.{alt_trees}
use Rattle.stmt_exprs.specs.Below.check_scopes.specs.Told.{spec_in}
use Rattle.target_steps.proofs.fields.all_taken.Given as goal

abbrev pub invariant-loop-alternative : goal.invariant-loop-alternative
invariant-loop-alternative l =
    taken_of (field_taken (spec_in l.setting) l.name) l.known (alt_trees (drop l.alternative-index l.alternatives))
    ≡ taken_of (field_taken (spec_in l.setting) l.name) no_form (alt_trees l.alternatives)
