use Rattle.std.proofs.Common.{ap, map, ◌++◌, ◌∙◌}
use Rattle.form_meaning.specs.Forms.{FormTree}
use Rattle.class_checks.specs.Patterns.{binds_each}
use Rattle.check_steps.specs.Below.check_scopes.specs.Told.{spec_in, types_in}
use Rattle.check_steps.specs.Below.check_names.proofs.Notes.{if_ok}
use Rattle.check_steps.specs.Below.check_patterns.specs.Shown.{local_view, patterns_of}
use Rattle.check_binds.proofs.sets.with_elements.Goals as goal

pub returns : goal.returns
returns c =
    if_ok c.binds_each.result c.binds_each.ensures (λ all told_so. told_so
    ∙ ap (λ (f : FormTree). map local_view c.args.found.items ++ binds_each (spec_in c.args.here.setting) (types_in c.args.here.setting) f (patterns_of c.args.patterns)) c.in_ok-elements.ensures)
