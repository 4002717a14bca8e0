use Rattle.std.proofs.Common.{◌≡◌, drop}
use Rattle.class_checks.specs.Shapes.{some_alt}
use Rattle.spec_checks.specs.Targets.{has_this_field}
use Rattle.type_forms.specs.Tree.{alt_trees}
use Rattle.stmt_exprs.specs.Below.check_scopes.specs.Told.{spec_in}
use Rattle.target_steps.proofs.fields.some_has_field.Given as goal

abbrev pub invariant-loop-alternative : goal.invariant-loop-alternative
invariant-loop-alternative l =
    some_alt (has_this_field (spec_in l.setting) l.name) (alt_trees (drop l.alternative-index l.alternatives))
    ≡ some_alt (has_this_field (spec_in l.setting) l.name) (alt_trees l.alternatives)
