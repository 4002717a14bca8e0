use Rattle.expr_tree.specs.View.{pattern_view}
use Rattle.form_meaning.specs.Forms.{no_form}
use Rattle.class_checks.specs.Expressions.{givens}
use Rattle.class_checks.specs.Results.{gives}
use Rattle.definition_scopes.specs.Below.check_scopes.specs.Told.{first_in}
use Rattle.type_check.specs.Below.check_frames.specs.Meant.{scope_here, spec_here}
use Rattle.type_check.specs.Below.check_patterns.specs.Givens.{expr_trees}
use Rattle.part_checks.specs.Behind.{on_same}
use Rattle.part_checks.proofs.Bracketed.{given_in_all, refused_in}
use Rattle.part_checks.proofs.parameters.refuse_givens.Goals as goal

pub returns : goal.returns
returns c =
    on_same c.refuse_each.result (first_in c.args.refusals.now) (first_in c.refuse_each.new.refusals)
    (refused_in (spec_here c.args.here) (scope_here c.args.here) (expr_trees c.as_slice.result.now))
    (givens (spec_here c.args.here) (scope_here c.args.here) (pattern_view c.args.pattern.now) (gives no_form)).refusals
    (given_in_all (spec_here c.args.here) (scope_here c.args.here) (pattern_view c.args.pattern.now) c.in_ok-exprs.exprs.items c.as_slice.result.now
    c.as_slice.ensures.value c.in_ok-exprs.ensures)
    c.refuse_each.ensures
