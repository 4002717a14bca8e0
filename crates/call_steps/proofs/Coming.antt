-- What is done with what came.
use Rattle.std.proofs.Common.{◌≡◌, Bool, Result, Ok, Err, IfOk, ap, sym, ◌∙◌}
use Rattle.vdm_kinds.specs.declared.halt.OutOfMemory.{OutOfMemory}
use Rattle.vdm_kinds.specs.declared.place.Place.{Place}
use Rattle.vdm_kinds.specs.declared.run_fault.RunFault.{RunFault}
use Rattle.abstract_syntax.specs.Classes.{SpecTree}
use Rattle.abstract_syntax.specs.Values.{ValueTree}
use Rattle.node_meaning.specs.Envs.{Locals}
use Rattle.node_meaning.specs.Matching.{on_truth}
use Rattle.node_meaning.specs.Tasks.{Code, fault, with_value}
use Rattle.eval_data.specs.declared.flow.Flow.{Flow}
use Rattle.eval_data.specs.Parts.{flow_of}
use Rattle.step_data.specs.declared.action.Action.{Action}
use Rattle.step_data.specs.Actions.{action_code}
use Rattle.flow_values.specs.declared.came.Came.{Came}
use Rattle.flow_values.specs.declared.came.Came.TheVariants.{Is}
use Rattle.flow_values.specs.declared.came.Truth.{Truth}
use Rattle.flow_values.specs.declared.came.Truth.TheVariants.{Is as Decides, Fails}
use Rattle.flow_values.specs.Came.{came_code, truth_code}

-- what an action does, in other words
pub moved : (spec : SpecTree) (after : Locals) (r : Result Action OutOfMemory) (code whole : Code) → IfOk r (λ a. action_code spec after a ≡ code) → code ≡ whole
    → IfOk r (λ a. action_code spec after a ≡ whole)
moved spec after (Ok a) code whole h e = h ∙ e
moved spec after (Err x) code whole h e = tt

-- ... under each specification
pub moved_all : (after : Locals) (r : Result Action OutOfMemory) (code whole : SpecTree → Code) → IfOk r (λ a. (spec : SpecTree) → action_code spec after a ≡ code spec)
    → ((spec : SpecTree) → code spec ≡ whole spec) → IfOk r (λ a. (spec : SpecTree) → action_code spec after a ≡ whole spec)
moved_all after (Ok a) code whole h e = λ spec. h spec ∙ e spec
moved_all after (Err x) code whole h e = tt

-- a value came
pub value_came : (came : Came) (flow : Flow) (v : ValueTree) → came ≡ Is v
    → ((place : Place) (further : ValueTree → Locals → Code) (locals : Locals) → came_code place further locals came ≡ with_value place further (flow_of flow locals))
    → (place : Place) (further : ValueTree → Locals → Code) (locals : Locals) → further v locals ≡ with_value place further (flow_of flow locals)
value_came came flow v is says place further locals = ap (came_code place further locals) (sym is) ∙ says place further locals

-- a truth value came
pub truth_came : (truth : Truth) (flow : Flow) (b : Bool) → truth ≡ Decides b
    → ((place : Place) (further : Bool → Locals → Code) (locals : Locals) → truth_code place further locals truth ≡ with_value place (on_truth place further) (flow_of flow locals))
    → (place : Place) (further : Bool → Locals → Code) (locals : Locals) → further b locals ≡ with_value place (on_truth place further) (flow_of flow locals)
truth_came truth flow b is says place further locals = ap (truth_code place further locals) (sym is) ∙ says place further locals

-- ... or a fault
pub truth_failed : (truth : Truth) (flow : Flow) (kind : RunFault) → truth ≡ Fails kind
    → ((place : Place) (further : Bool → Locals → Code) (locals : Locals) → truth_code place further locals truth ≡ with_value place (on_truth place further) (flow_of flow locals))
    → (place at : Place) (further : Bool → Locals → Code) (locals : Locals) → at ≡ place → fault kind at ≡ with_value place (on_truth place further) (flow_of flow locals)
truth_failed truth flow kind is says place at further locals e = ap (fault kind) e ∙ ap (truth_code place further locals) (sym is) ∙ says place further locals

-- under one specification
pub at_spec : (spec : SpecTree) (after : Locals) (r : Result Action OutOfMemory) (code : SpecTree → Code) (whole : Code) → IfOk r (λ a. (s : SpecTree) → action_code s after a ≡ code s)
    → code spec ≡ whole → IfOk r (λ a. action_code spec after a ≡ whole)
at_spec spec after (Ok a) code whole h e = h spec ∙ e
at_spec spec after (Err x) code whole h e = tt

-- at these locals
pub at_locals : (spec : SpecTree) (locals : Locals) (r : Result Action OutOfMemory) (code : Locals → Code) (whole : Code) → IfOk r (λ a. (l : Locals) → action_code spec l a ≡ code l)
    → code locals ≡ whole → IfOk r (λ a. action_code spec locals a ≡ whole)
at_locals spec locals (Ok a) code whole h e = h locals ∙ e
at_locals spec locals (Err x) code whole h e = tt
