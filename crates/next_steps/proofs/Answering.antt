-- What an action says that is known for each specification.
use Rattle.std.proofs.Common.{◌≡◌, Result, Ok, Err, IfOk, ◌∙◌}
use Rattle.vdm_kinds.specs.declared.halt.OutOfMemory.{OutOfMemory}
use Rattle.abstract_syntax.specs.Classes.{SpecTree}
use Rattle.node_meaning.specs.Envs.{Locals}
use Rattle.node_meaning.specs.Tasks.{Code}
use Rattle.step_data.specs.declared.action.Action.{Action}
use Rattle.step_data.specs.Actions.{action_code}

pub at_this : (spec : SpecTree) (r : Result Action OutOfMemory) (after : Locals) (code whole : Code)
    → IfOk r (λ a. (s : SpecTree) → action_code s after a ≡ code) → code ≡ whole → IfOk r (λ a. action_code spec after a ≡ whole)
at_this spec (Ok a) after code whole h e = h spec ∙ e
at_this spec (Err x) after code whole h e = tt
