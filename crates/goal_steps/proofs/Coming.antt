-- What is done with a value that came.
use Rattle.std.proofs.Common.{◌≡◌, Result, IfOk, ap, sym, ◌∙◌}
use Rattle.vdm_kinds.specs.declared.halt.OutOfMemory.{OutOfMemory}
use Rattle.vdm_kinds.specs.declared.place.Place.{Place}
use Rattle.abstract_syntax.specs.Classes.{SpecTree}
use Rattle.abstract_syntax.specs.Values.{ValueTree}
use Rattle.node_meaning.specs.Envs.{Locals}
use Rattle.node_meaning.specs.Tasks.{Code, with_value}
use Rattle.eval_data.specs.declared.flow.Flow.{Flow}
use Rattle.eval_data.specs.Parts.{flow_of}
use Rattle.step_data.specs.declared.action.Action.{Action}
use Rattle.step_data.specs.Actions.{action_code}
use Rattle.flow_values.specs.declared.came.Came.{Came}
use Rattle.flow_values.specs.declared.came.Came.TheVariants.{Is}
use Rattle.flow_values.specs.Came.{came_code}
use Rattle.goal_steps.proofs.Moving.{moved, at_any}

module _ (came : Came) (flow : Flow) (v : ValueTree) (is : came ≡ Is v)
    (says : (place : Place) (further : ValueTree → Locals → Code) (locals : Locals) → came_code place further locals came ≡ with_value place further (flow_of flow locals)) where
  used : (place : Place) (further : ValueTree → Locals → Code) (locals : Locals) → further v locals ≡ with_value place further (flow_of flow locals)
  used place further locals = ap (came_code place further locals) (sym is) ∙ says place further locals

  pub value_came : (spec : SpecTree) (place : Place) (further : ValueTree → Locals → Code) (locals after : Locals) (r : Result Action OutOfMemory)
      → IfOk r (λ a. action_code spec after a ≡ further v locals) → IfOk r (λ a. action_code spec after a ≡ with_value place further (flow_of flow locals))
  value_came spec place further locals after r h = moved after r spec (further v locals) (with_value place further (flow_of flow locals)) h (used place further locals)

  -- by any specification
  pub value_came_by : (place : Place) (further : SpecTree → ValueTree → Locals → Code) (locals after : Locals) (r : Result Action OutOfMemory)
      → IfOk r (λ a. (s : SpecTree) → action_code s after a ≡ further s v locals)
      → IfOk r (λ a. (s : SpecTree) → action_code s after a ≡ with_value place (further s) (flow_of flow locals))
  value_came_by place further locals after r h =
      at_any after r (λ s. further s v locals) (λ s. with_value place (further s) (flow_of flow locals)) h (λ s. used place (further s) locals)
