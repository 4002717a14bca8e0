use Rattle.std.proofs.Common.{ap, ◌∙◌}
use Rattle.expr_tree.specs.View.{pattern_view}
use Rattle.expr_tree.specs.declared.pattern.Pattern.{Pattern}
use Rattle.class_checks.specs.Expressions.{givens}
use Rattle.spec_checks.specs.Statements.{done}
use Rattle.stmt_scopes.specs.Below.check_scopes.specs.Told.{first_in}
use Rattle.stmt_scopes.specs.Below.check_frames.specs.Meant.{scope_here, spec_here}
use Rattle.stmt_scopes.specs.Below.check_patterns.specs.Givens.{expr_trees, given_in, givens_list}
use Rattle.stmt_scopes.specs.Refused.{refused_same}
use Rattle.stmt_exprs.proofs.Bracketed.{given_in_one}
use Rattle.stmt_exprs.proofs.brackets.refuse_given.Goals as goal

pub returns : goal.returns
returns c =
    refused_same c.refuse_each.result (first_in c.args.refusals.now) (first_in c.refuse_each.new.refusals)
    (givens (spec_here c.args.here) (scope_here c.args.here) (pattern_view c.args.pattern.now.value) done)
    (givens_list (spec_here c.args.here) (scope_here c.args.here) (expr_trees c.as_slice.result.now) done)
    (given_in_one (spec_here c.args.here) (scope_here c.args.here) (pattern_view c.args.pattern.now.value) c.in_ok-exprs.exprs.items c.as_slice.result.now
    c.as_slice.ensures.value (c.in_ok-exprs.ensures ∙ ap (λ (p : Pattern). given_in (pattern_view p)) c.deref.ensures))
    c.refuse_each.ensures
