-- What a step that is known does, in other words.
use Rattle.std.proofs.Common.{◌≡◌, Result, Ok, Err, IfOk, ◌∙◌}
use Rattle.vdm_kinds.specs.declared.halt.OutOfMemory.{OutOfMemory}
use Rattle.abstract_syntax.specs.Classes.{SpecTree}
use Rattle.node_meaning.specs.Envs.{Locals}
use Rattle.node_meaning.specs.Tasks.{Code}
use Rattle.step_data.specs.declared.action.Action.{Action}
use Rattle.step_data.specs.Actions.{action_code}

pub moved : (spec : SpecTree) (after : Locals) (r : Result Action OutOfMemory) (code whole : Code) → IfOk r (λ a. action_code spec after a ≡ code) → code ≡ whole
    → IfOk r (λ a. action_code spec after a ≡ whole)
moved spec after (Ok a) code whole h e = h ∙ e
moved spec after (Err x) code whole h e = tt

-- at this specification and these locals
pub at_these : (spec : SpecTree) (locals : Locals) (r : Result Action OutOfMemory) (code : SpecTree → Locals → Code) (whole : Code)
    → IfOk r (λ a. (s : SpecTree) (l : Locals) → action_code s l a ≡ code s l) → code spec locals ≡ whole → IfOk r (λ a. action_code spec locals a ≡ whole)
at_these spec locals (Ok a) code whole h e = h spec locals ∙ e
at_these spec locals (Err x) code whole h e = tt

-- at any of them
pub at_all : (r : Result Action OutOfMemory) (code whole : SpecTree → Locals → Code) → IfOk r (λ a. (s : SpecTree) (l : Locals) → action_code s l a ≡ code s l)
    → ((s : SpecTree) (l : Locals) → code s l ≡ whole s l) → IfOk r (λ a. (s : SpecTree) (l : Locals) → action_code s l a ≡ whole s l)
at_all (Ok a) code whole h e = λ s l. h s l ∙ e s l
at_all (Err x) code whole h e = tt
