use Rattle.class_checks.specs.Expressions.{givens_each}
use Rattle.spec_checks.specs.Statements.{done}
use Rattle.stmt_scopes.specs.Below.check_scopes.specs.Told.{first_in}
use Rattle.stmt_scopes.specs.Below.check_frames.specs.Meant.{scope_here, spec_here}
use Rattle.stmt_scopes.specs.Below.check_patterns.specs.Givens.{expr_trees, givens_list}
use Rattle.stmt_scopes.specs.Below.check_patterns.specs.Shown.{patterns_of}
use Rattle.stmt_scopes.specs.Refused.{refused_same}
use Rattle.stmt_exprs.proofs.Bracketed.{given_in_all}
use Rattle.stmt_exprs.proofs.brackets.refuse_givens.Goals as goal

pub returns : goal.returns
returns c =
    refused_same c.refuse_each.result (first_in c.args.refusals.now) (first_in c.refuse_each.new.refusals)
    (givens_each (spec_here c.args.here) (scope_here c.args.here) (patterns_of c.args.patterns) done)
    (givens_list (spec_here c.args.here) (scope_here c.args.here) (expr_trees c.as_slice.result.now) done)
    (given_in_all (spec_here c.args.here) (scope_here c.args.here) (patterns_of c.args.patterns) c.in_ok-exprs.exprs.items c.as_slice.result.now
    c.as_slice.ensures.value c.in_ok-exprs.ensures)
    c.refuse_each.ensures
