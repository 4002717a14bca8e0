use Rattle.check_steps.specs.Below.check_frames.specs.Meant.{boxed, scope_here}
use Rattle.check_steps.specs.Below.check_frames.specs.Steps.{onward}
use Rattle.check_steps.specs.Listed.{definitions_first, definitions_none}
use Rattle.check_series.proofs.binding.definitions_next.Goals as goal

pub returns-in-empty : goal.returns-in-empty
returns-in-empty c =
    onward c.args.here.setting c.becomes.result _ _ (definitions_none c.args.here.setting (scope_here c.args.here) c.args.definitions.now (boxed c.args.body) c.in-empty.len_below) c.becomes.ensures

pub returns-in-len1-up : goal.returns-in-len1-up
returns-in-len1-up c =
    onward c.args.here.setting c.definition_next.result _ _ (definitions_first c.args.here.setting (scope_here c.args.here) c.args.definitions.now c.definition-item.result (boxed c.args.body) c.in-len1-up.len_at_least c.definition-item.is) c.definition_next.ensures
