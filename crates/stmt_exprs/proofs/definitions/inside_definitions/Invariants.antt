use Rattle.std.proofs.Common.{◌≡◌, map, drop}
use Rattle.expr_tree.specs.View.{defined_trees, defined_view}
use Rattle.class_checks.specs.Expressions.{defined_in}
use Rattle.class_checks.specs.Results.{Checked}
use Rattle.class_checks.specs.Scopes.{ScopeTree}
use Rattle.stmt_scopes.specs.Below.check_scopes.specs.Told.{first_in}
use Rattle.stmt_scopes.specs.Below.check_frames.specs.Meant.{at, scope_here, spec_here}
use Rattle.stmt_scopes.specs.Refused.{refused}
use Rattle.stmt_exprs.proofs.definitions.inside_definitions.Given as goal

abbrev pub invariant-loop-definition : goal.invariant-loop-definition
invariant-loop-definition l =
    (rest : ScopeTree → Checked)
    → refused (first_in l.refusals) (defined_in (spec_here l.here) (at l.here.setting l.locals) (defined_trees (map defined_view (drop l.definition-index l.definitions))) rest)
    ≡ refused (first_in l.fn.refusals) (defined_in (spec_here l.here) (scope_here l.here) (defined_trees (map defined_view l.definitions)) rest)
