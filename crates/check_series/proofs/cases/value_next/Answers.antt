use Rattle.shared_names.specs.Maps.{held}
use Rattle.check_steps.specs.Below.check_frames.specs.Meant.{at}
use Rattle.check_steps.specs.Begun.{value_begun}
use Rattle.check_series.proofs.cases.value_next.Goals as goal

pub returns : goal.returns
returns c =
    value_begun c.args.here.setting (held c.args.here.locals.now) (held c.in_ok-locals.locals) c.args.known (at c.args.here.setting c.args.scope) c.args.values c.deref.result.now c.in_ok-locals.ensures c.deref.ensures
