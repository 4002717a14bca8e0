use Rattle.std.proofs.Common.{◌≡◌, drop}
use Rattle.class_checks.specs.Results.{first_among}
use Rattle.spec_checks.specs.Statements.{done}
use Rattle.stmt_scopes.specs.Below.check_scopes.specs.Told.{first_in}
use Rattle.stmt_scopes.specs.Below.check_patterns.specs.Givens.{expr_trees, givens_list}
use Rattle.stmt_scopes.specs.Below.check_frames.specs.Meant.{scope_here, spec_here}
use Rattle.stmt_exprs.proofs.brackets.refuse_each.Given as goal

abbrev pub invariant-loop-expr : goal.invariant-loop-expr
invariant-loop-expr l =
    first_among (first_in l.refusals) (givens_list (spec_here l.here) (scope_here l.here) (expr_trees (drop l.expr-index l.exprs)) done).refusals
    ≡ first_among (first_in l.fn.refusals) (givens_list (spec_here l.here) (scope_here l.here) (expr_trees l.exprs) done).refusals
