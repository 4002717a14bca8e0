use Rattle.check_steps.specs.Below.check_frames.specs.Meant.{boxed, scope_here}
use Rattle.check_steps.specs.Below.check_frames.specs.Steps.{onward}
use Rattle.check_named.proofs.Begun.{bracketed_begun}
use Rattle.check_named.proofs.plain.bracketed_next.Goals as goal

pub returns : goal.returns
returns c =
    λ place. onward c.args.here.setting c.becomes.result _ _ (bracketed_begun c.args.here.setting (scope_here c.args.here) (boxed c.args.inner) place) c.becomes.ensures
