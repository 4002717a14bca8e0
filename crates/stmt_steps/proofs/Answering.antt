-- What an action says that is known for each specification and all locals.
use Rattle.std.proofs.Common.{◌≡◌, ℕ, length, Result, Ok, Err, IfOk, ◌∙◌}
use Rattle.vdm_kinds.specs.declared.halt.OutOfMemory.{OutOfMemory}
use Rattle.abstract_syntax.specs.Classes.{SpecTree}
use Rattle.node_meaning.specs.Envs.{Locals}
use Rattle.node_meaning.specs.Tasks.{Code}
use Rattle.step_data.specs.declared.action.Action.{Action}
use Rattle.step_data.specs.Actions.{action_code}

pub at_these : (spec : SpecTree) (locals : Locals) (r : Result Action OutOfMemory) (code : SpecTree → Locals → Code) (whole : Code)
    → IfOk r (λ a. (s : SpecTree) (l : Locals) → action_code s l a ≡ code s l) → code spec locals ≡ whole
    → IfOk r (λ a. action_code spec locals a ≡ whole)
at_these spec locals (Ok a) code whole h e = h spec locals ∙ e
at_these spec locals (Err x) code whole h e = tt

-- ... among so many
pub at_counted : (spec : SpecTree) (locals : Locals) (r : Result Action OutOfMemory) (count : ℕ) (code : SpecTree → Locals → Code) (whole : Code)
    → IfOk r (λ a. (s : SpecTree) (l : Locals) → count ≡ length l → action_code s l a ≡ code s l) → count ≡ length locals → code spec locals ≡ whole
    → IfOk r (λ a. action_code spec locals a ≡ whole)
at_counted spec locals (Ok a) count code whole h n e = h spec locals n ∙ e
at_counted spec locals (Err x) count code whole h n e = tt
