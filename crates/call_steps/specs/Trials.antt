-- What tests of values come to.
use Rattle.std.specs.Prelude.{List, ◌∷◌, Option, Some, None}
use Rattle.abstract_syntax.specs.Classes.{SpecTree}
use Rattle.vdm_kinds.specs.declared.place.Place.{Place}
use Rattle.plans.specs.Plans.{bind, part}
use Rattle.node_meaning.specs.Envs.{Locals}
use Rattle.node_meaning.specs.Tasks.{Code, fault, with_value}
use Rattle.eval_data.specs.Steps.{frame_then}
use Rattle.stmt_meaning.specs.Questions.{of_thread}
use Rattle.stmt_meaning.specs.Olds.{Old as MeantOld}
use Rattle.step_data.specs.Callings.{old_view}
use Rattle.step_data.specs.Parts.{expression_in}
use Rattle.step_data.specs.declared.calling.Old.{Old}
use Rattle.call_steps.specs.declared.trying.Tried.{Tried}
use Rattle.call_steps.specs.declared.trying.Tried.TheVariants.{Passes, Fails, Asks}

-- a test that is made at the place, and what follows where the value passes it
abbrev pub tried_code : SpecTree → Place → Locals → (Locals → Code) → Tried → Code
tried_code spec place locals further Passes = further locals
tried_code spec place locals further (Fails kind) = fault kind place
tried_code spec place locals further (Asks here tree inner) =
    bind (part (expression_in here tree locals) (frame_then (of_thread spec) inner)) (with_value place (λ v. further))

-- a variable before others, if it is one
abbrev pub maybe_old : Option Old → List MeantOld → List MeantOld
maybe_old None olds = olds
maybe_old (Some old) olds = old_view old ∷ olds
