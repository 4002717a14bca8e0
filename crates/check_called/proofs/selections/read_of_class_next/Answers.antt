use Rattle.check_steps.specs.Below.check_frames.specs.Meant.{boxed, scope_here}
use Rattle.check_steps.specs.Below.check_frames.specs.Steps.{onward}
use Rattle.check_called.proofs.Begun.{select_of_class_begun}
use Rattle.check_called.proofs.selections.read_of_class_next.Goals as goal

pub returns : goal.returns
returns c =
    λ place. onward c.args.here.setting c.selected_of_class_next.result _ _ (select_of_class_begun c.args.here.setting (scope_here c.args.here) (boxed c.args.target) c.args.class.name c.args.class.place c.args.named.name c.args.named.place place) c.selected_of_class_next.ensures
