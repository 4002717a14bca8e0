-- What a step that is known does, in other words.
use Rattle.std.proofs.Common.{◌≡◌, Result, Ok, Err, IfOk, ◌∙◌}
use Rattle.vdm_kinds.specs.declared.halt.OutOfMemory.{OutOfMemory}
use Rattle.abstract_syntax.specs.Classes.{SpecTree}
use Rattle.node_meaning.specs.Envs.{Locals}
use Rattle.node_meaning.specs.Tasks.{Code}
use Rattle.step_data.specs.declared.action.Action.{Action}
use Rattle.step_data.specs.Actions.{action_code}

module _ (after : Locals) (r : Result Action OutOfMemory) where
  pub moved : (spec : SpecTree) (code whole : Code) → IfOk r (λ a. action_code spec after a ≡ code) → code ≡ whole → IfOk r (λ a. action_code spec after a ≡ whole)
  moved spec code whole h e = by r h
    where
      by : (x : Result Action OutOfMemory) → IfOk x (λ a. action_code spec after a ≡ code) → IfOk x (λ a. action_code spec after a ≡ whole)
      by (Ok a) is = is ∙ e
      by (Err x) is = tt

  -- at this specification
  pub at_spec : (spec : SpecTree) (code : SpecTree → Code) (whole : Code) → IfOk r (λ a. (s : SpecTree) → action_code s after a ≡ code s) → code spec ≡ whole
      → IfOk r (λ a. action_code spec after a ≡ whole)
  at_spec spec code whole h e = by r h
    where
      by : (x : Result Action OutOfMemory) → IfOk x (λ a. (s : SpecTree) → action_code s after a ≡ code s) → IfOk x (λ a. action_code spec after a ≡ whole)
      by (Ok a) is = is spec ∙ e
      by (Err x) is = tt

  -- at any
  pub at_any : (code whole : SpecTree → Code) → IfOk r (λ a. (s : SpecTree) → action_code s after a ≡ code s) → ((s : SpecTree) → code s ≡ whole s)
      → IfOk r (λ a. (s : SpecTree) → action_code s after a ≡ whole s)
  at_any code whole h e = by r h
    where
      by : (x : Result Action OutOfMemory) → IfOk x (λ a. (s : SpecTree) → action_code s after a ≡ code s) → IfOk x (λ a. (s : SpecTree) → action_code s after a ≡ whole s)
      by (Ok a) is = λ s. is s ∙ e s
      by (Err x) is = tt

-- at any specification and any locals
pub at_all : (r : Result Action OutOfMemory) (code whole : SpecTree → Locals → Code) → IfOk r (λ a. (s : SpecTree) (l : Locals) → action_code s l a ≡ code s l)
    → ((s : SpecTree) (l : Locals) → code s l ≡ whole s l) → IfOk r (λ a. (s : SpecTree) (l : Locals) → action_code s l a ≡ whole s l)
at_all (Ok a) code whole is e = λ s l. is s l ∙ e s l
at_all (Err x) code whole is e = tt

-- at this specification and any locals
pub at_this : (r : Result Action OutOfMemory) (spec : SpecTree) (code : SpecTree → Locals → Code) (whole : Locals → Code)
    → IfOk r (λ a. (s : SpecTree) (l : Locals) → action_code s l a ≡ code s l) → ((l : Locals) → code spec l ≡ whole l)
    → IfOk r (λ a. (l : Locals) → action_code spec l a ≡ whole l)
at_this (Ok a) spec code whole is e = λ l. is spec l ∙ e l
at_this (Err x) spec code whole is e = tt

-- at this specification and these locals
pub at_these : (r : Result Action OutOfMemory) (spec : SpecTree) (locals : Locals) (code : SpecTree → Locals → Code) (whole : Code)
    → IfOk r (λ a. (s : SpecTree) (l : Locals) → action_code s l a ≡ code s l) → code spec locals ≡ whole → IfOk r (λ a. action_code spec locals a ≡ whole)
at_these (Ok a) spec locals code whole is e = is spec locals ∙ e
at_these (Err x) spec locals code whole is e = tt
