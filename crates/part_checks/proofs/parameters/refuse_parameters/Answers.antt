use Rattle.std.proofs.Common.{arith}
use Rattle.expr_tree.specs.View.{pattern_view}
use Rattle.definition_scopes.specs.Below.check_scopes.specs.Told.{first_in}
use Rattle.type_check.specs.Below.check_frames.specs.Meant.{scope_here, spec_here}
use Rattle.part_checks.specs.Behind.{each_past, each_turn}
use Rattle.part_checks.specs.Binding.{parameter_in}
use Rattle.part_checks.proofs.parameters.refuse_parameters.Goals as goal

pub loop-pattern-preserved : goal.loop-pattern-preserved
loop-pattern-preserved c =
    each_turn pattern_view (parameter_in (spec_here c.args.here) (scope_here c.args.here)) c.args.patterns.now c.loop-pattern.pattern-index c.pattern-item.result
    (first_in c.loop-pattern.refusals) (first_in c.refuse_parameter.new.refusals) _ c.pattern-item.is c.loop-pattern-test.true c.in_ok-refuse_parameter.ensures c.loop-pattern.invariant

pub returns : goal.returns
returns c =
    each_past pattern_view (parameter_in (spec_here c.args.here) (scope_here c.args.here)) c.args.patterns.now c.loop-pattern.pattern-index (first_in c.loop-pattern.refusals) _
    (omega (arith, c.loop-pattern-test.false)) c.loop-pattern.invariant
