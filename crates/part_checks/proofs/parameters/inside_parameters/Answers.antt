use Rattle.shared_names.specs.Maps.{held}
use Rattle.definition_scopes.specs.Below.check_scopes.specs.Told.{types_in}
use Rattle.type_check.specs.Below.check_frames.specs.Meant.{scope_here, spec_here}
use Rattle.part_checks.proofs.Bound.{bound_turn}
use Rattle.part_checks.proofs.parameters.inside_parameters.Goals as goal

pub loop-index-preserved : goal.loop-index-preserved
loop-index-preserved c =
    bound_turn (spec_here c.args.here) (types_in c.args.here.setting) (scope_here c.args.here) c.args.types.now c.args.patterns.now c.loop-index.index
    c.index-patterns-index.result c.get.result c.in_ok-form.form (held c.loop-index.locals) (held c.in_ok-locals-2.locals) _
    c.index-patterns-index.is c.loop-index-test.true c.get.ensures.lookup c.in_ok-form.ensures c.in_ok-locals-2.ensures c.loop-index.invariant
