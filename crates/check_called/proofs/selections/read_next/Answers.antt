use Rattle.check_steps.specs.Below.check_frames.specs.Meant.{boxed, scope_here}
use Rattle.check_steps.specs.Below.check_frames.specs.Steps.{onward}
use Rattle.check_called.proofs.Begun.{select_begun}
use Rattle.check_called.proofs.selections.read_next.Goals as goal

pub returns : goal.returns
returns c =
    λ place. onward c.args.here.setting c.selected_next.result _ _ (select_begun c.args.here.setting (scope_here c.args.here) (boxed c.args.target) c.args.named.name c.args.named.place place) c.selected_next.ensures
