use Rattle.std.proofs.Common.{arith}
use Rattle.definition_scopes.specs.Below.check_scopes.specs.Told.{first_in}
use Rattle.type_check.specs.Below.check_frames.specs.Meant.{scope_here, spec_here}
use Rattle.part_checks.proofs.Bracketed.{given_past, given_turn}
use Rattle.part_checks.proofs.parameters.refuse_each.Goals as goal

pub loop-expr-preserved : goal.loop-expr-preserved
loop-expr-preserved c =
    given_turn (spec_here c.args.here) (scope_here c.args.here) c.args.exprs.now c.loop-expr.expr-index c.expr-item.result
    (first_in c.loop-expr.refusals) (first_in c.refuse_expr.new.refusals) _ c.expr-item.is c.loop-expr-test.true c.in_ok-refuse_expr.ensures c.loop-expr.invariant

pub returns : goal.returns
returns c =
    given_past (spec_here c.args.here) (scope_here c.args.here) c.args.exprs.now c.loop-expr.expr-index (first_in c.loop-expr.refusals) _
    (omega (arith, c.loop-expr-test.false)) c.loop-expr.invariant
