-- What is done with a value that came.
use Rattle.std.proofs.Common.{◌≡◌, Result, IfOk, ap, sym, ◌∙◌}
use Rattle.vdm_kinds.specs.declared.halt.OutOfMemory.{OutOfMemory}
use Rattle.vdm_kinds.specs.declared.place.Place.{Place}
use Rattle.abstract_syntax.specs.Classes.{SpecTree}
use Rattle.abstract_syntax.specs.Values.{ValueTree}
use Rattle.node_meaning.specs.Envs.{Locals}
use Rattle.node_meaning.specs.Tasks.{Code, with_value}
use Rattle.eval_data.specs.declared.flow.Flow.{Flow}
use Rattle.eval_data.specs.Parts.{flow_of}
use Rattle.step_data.specs.declared.action.Action.{Action}
use Rattle.step_data.specs.Actions.{action_code}
use Rattle.flow_values.specs.declared.came.Came.{Came}
use Rattle.flow_values.specs.declared.came.Came.TheVariants.{Is}
use Rattle.flow_values.specs.Came.{came_code}
use Rattle.meet_steps.proofs.Moving.{moved}

pub value_came : (came : Came) (flow : Flow) (v : ValueTree) → came ≡ Is v
    → ((place : Place) (further : ValueTree → Locals → Code) (locals : Locals) → came_code place further locals came ≡ with_value place further (flow_of flow locals))
    → (spec : SpecTree) (place : Place) (further : ValueTree → Locals → Code) (locals after : Locals) (r : Result Action OutOfMemory)
    → IfOk r (λ a. action_code spec after a ≡ further v locals) → IfOk r (λ a. action_code spec after a ≡ with_value place further (flow_of flow locals))
value_came came flow v is says spec place further locals after r h =
    moved spec after r (further v locals) (with_value place further (flow_of flow locals)) h
    (ap (came_code place further locals) (sym is) ∙ says place further locals)
