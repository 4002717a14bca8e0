use Rattle.std.proofs.Common.{◌≡◌, drop}
use Rattle.class_checks.specs.Results.{first_among}
use Rattle.definition_scopes.specs.Below.check_scopes.specs.Told.{first_in}
use Rattle.type_check.specs.Below.check_frames.specs.Meant.{scope_here, spec_here}
use Rattle.type_check.specs.Below.check_patterns.specs.Givens.{expr_trees}
use Rattle.part_checks.proofs.Bracketed.{refused_in}
use Rattle.part_checks.proofs.parameters.refuse_each.Given as goal

abbrev pub invariant-loop-expr : goal.invariant-loop-expr
invariant-loop-expr l =
    first_among (first_in l.refusals) (refused_in (spec_here l.here) (scope_here l.here) (expr_trees (drop l.expr-index l.exprs)))
    ≡ first_among (first_in l.fn.refusals) (refused_in (spec_here l.here) (scope_here l.here) (expr_trees l.exprs))
