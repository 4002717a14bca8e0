use Rattle.std.proofs.Common.{ap, ◌∙◌}
use Rattle.expr_tree.specs.View.{pattern_view}
use Rattle.expr_tree.specs.declared.pattern.Pattern.{Pattern}
use Rattle.class_checks.specs.Expressions.{givens}
use Rattle.class_checks.specs.Patterns.{pattern_faults}
use Rattle.class_checks.specs.Results.{first_among}
use Rattle.spec_checks.specs.Statements.{done}
use Rattle.stmt_scopes.specs.Below.check_scopes.specs.Told.{first_in, types_in}
use Rattle.stmt_scopes.specs.Below.check_frames.specs.Meant.{scope_here, spec_here}
use Rattle.type_check.specs.Below.check_binds.proofs.Behinds.{on_both}
use Rattle.stmt_exprs.proofs.matched.refuse_pattern.Goals as goal

pub returns : goal.returns
returns c =
    on_both c.refuse_given.result (first_in c.args.refusals.now) (first_in c.pattern_faults.new.refusals) (first_in c.refuse_given.new.refusals)
    (pattern_faults (spec_here c.args.here) (types_in c.args.here.setting) (pattern_view c.args.pattern.now.value))
    (givens (spec_here c.args.here) (scope_here c.args.here) (pattern_view c.args.pattern.now.value) done).refusals
    (c.in_ok-pattern_faults.ensures
    ∙ ap (λ (p : Pattern). first_among (first_in c.args.refusals.now) (pattern_faults (spec_here c.args.here) (types_in c.args.here.setting) (pattern_view p))) c.deref.ensures)
    c.refuse_given.ensures
