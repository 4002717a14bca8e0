-- What tests of the slots of class objects come to.
use Rattle.abstract_syntax.specs.Classes.{SpecTree}
use Rattle.plans.specs.Plans.{bind, part}
use Rattle.node_meaning.specs.Envs.{Locals}
use Rattle.node_meaning.specs.Tasks.{Code, fault}
use Rattle.stmt_meaning.specs.Questions.{of_thread}
use Rattle.vdm_meaning.specs.Main.{came}
use Rattle.eval_data.specs.Steps.{frame_then}
use Rattle.step_data.specs.Parts.{expression_in}
use Rattle.main_steps.specs.declared.testing.Tried.{Tried}
use Rattle.main_steps.specs.declared.testing.Tried.TheVariants.{Passes, Fails, Asks}

-- a test among these locals, and what follows where the slot passes it
abbrev pub tried_code : SpecTree → Locals → Code → Tried → Code
tried_code spec locals further Passes = further
tried_code spec locals further (Fails kind place) = fault kind place
tried_code spec locals further (Asks here tree inner place) =
    bind (part (expression_in here tree locals) (frame_then (of_thread spec) inner)) (came place (λ v. further))
