-- A step that is handed on.
use Rattle.std.proofs.Common.{◌≡◌, Result, IfOk, subst}
use Rattle.vdm_kinds.specs.declared.halt.OutOfMemory.{OutOfMemory}
use Rattle.abstract_syntax.specs.Classes.{SpecTree}
use Rattle.node_meaning.specs.Envs.{Locals}
use Rattle.node_meaning.specs.Needs.{Asker}
use Rattle.node_meaning.specs.Tasks.{Code}
use Rattle.eval_data.specs.declared.step.Step.{Step}
use Rattle.eval_data.specs.Steps.{code_of}

-- where one plan is another, a step that is the one is the other
pub handed : (result : Result Step OutOfMemory) (spec : SpecTree) (locals : Locals) (a b : Code) → a ≡ b
    → IfOk result (λ (s : Step). (asker : Asker) → code_of (record { spec = spec; asker = asker }) locals s ≡ a)
    → IfOk result (λ (s : Step). (asker : Asker) → code_of (record { spec = spec; asker = asker }) locals s ≡ b)
handed result spec locals a b e h =
    subst (λ (p : Code). IfOk result (λ (s : Step). (asker : Asker) → code_of (record { spec = spec; asker = asker }) locals s ≡ p)) e h
