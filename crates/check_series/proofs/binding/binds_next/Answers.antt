use Rattle.std.proofs.Common.{map}
use Rattle.check_steps.specs.Below.check_patterns.specs.Shown.{local_view}
use Rattle.check_steps.specs.Below.check_frames.specs.Meant.{scope_here}
use Rattle.check_steps.specs.Below.check_frames.specs.Steps.{onward}
use Rattle.check_steps.specs.Listed.{binds_first, binds_none}
use Rattle.check_series.proofs.binding.binds_next.Goals as goal

pub returns-in-empty : goal.returns-in-empty
returns-in-empty c =
    onward c.args.here.setting c.inside_all_next.result _ _ (binds_none c.args.here.setting (scope_here c.args.here) (map local_view c.args.rest.found.items) c.args.rest.more.now _ c.in-empty.len_below) c.inside_all_next.ensures

pub returns-in-len1-up : goal.returns-in-len1-up
returns-in-len1-up c =
    onward c.args.here.setting c.set_next.result _ _ (binds_first c.args.here.setting (scope_here c.args.here) (map local_view c.args.rest.found.items) c.args.rest.more.now c.bind-item.result c.args.rest.inside c.in-len1-up.len_at_least c.bind-item.is) c.set_next.ensures
