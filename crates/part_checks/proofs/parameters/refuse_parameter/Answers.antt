use Rattle.expr_tree.specs.View.{pattern_view}
use Rattle.form_meaning.specs.Forms.{no_form}
use Rattle.class_checks.specs.Expressions.{givens}
use Rattle.class_checks.specs.Patterns.{pattern_faults}
use Rattle.class_checks.specs.Results.{gives}
use Rattle.definition_scopes.specs.Below.check_scopes.specs.Told.{first_in, types_in}
use Rattle.type_check.specs.Below.check_frames.specs.Meant.{scope_here, spec_here}
use Rattle.part_checks.specs.Behind.{on_both}
use Rattle.part_checks.proofs.parameters.refuse_parameter.Goals as goal

pub returns : goal.returns
returns c =
    on_both c.refuse_givens.result (first_in c.args.refusals.now) (first_in c.pattern_faults.new.refusals) (first_in c.refuse_givens.new.refusals)
    (pattern_faults (spec_here c.args.here) (types_in c.args.here.setting) (pattern_view c.args.pattern.now))
    (givens (spec_here c.args.here) (scope_here c.args.here) (pattern_view c.args.pattern.now) (gives no_form)).refusals
    c.in_ok-pattern_faults.ensures c.refuse_givens.ensures
