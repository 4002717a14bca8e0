-- What came of an expression whose value is wanted, by itself.
use Rattle.std.specs.Prelude.{ℤ, Bool}
use Rattle.vdm_kinds.specs.declared.place.Place.{Place}
use Rattle.vdm_kinds.specs.declared.run_fault.RunFault.TheVariants.{Undefined}
use Rattle.abstract_syntax.specs.Values.{ValueTree}
use Rattle.plans.specs.Plans.{finish}
use Rattle.node_meaning.specs.Envs.{Locals}
use Rattle.node_meaning.specs.Tasks.{exited, Code, fault}
use Rattle.flow_values.specs.declared.came.Came.{Came}
use Rattle.flow_values.specs.declared.came.Came.TheVariants.{Is as IsValue, Nothing, Exits as ValueExits}
use Rattle.flow_values.specs.declared.came.Truth.{Truth}
use Rattle.flow_values.specs.declared.came.Truth.TheVariants.{Is, Fails, Exits}
use Rattle.flow_values.specs.declared.came.Number.{Number}
use Rattle.flow_values.specs.declared.came.Number.TheVariants.{Is as IsNumber, Fails as NumberFails, Exits as NumberExits}

-- what is done where a value came
abbrev pub came_code : Place → (ValueTree → Locals → Code) → Locals → Came → Code
came_code place further locals (IsValue v) = further v locals
came_code place further locals Nothing = fault Undefined place
came_code place further locals (ValueExits v from) = finish (exited v from locals)

-- what is done with a truth value, at the place of the statement that wants it
abbrev pub truth_code : Place → (Bool → Locals → Code) → Locals → Truth → Code
truth_code place further locals (Is b) = further b locals
truth_code place further locals (Fails kind) = fault kind place
truth_code place further locals (Exits v from) = finish (exited v from locals)

-- what is done with a number
abbrev pub number_code : Place → (ℤ → Locals → Code) → Locals → Number → Code
number_code place further locals (IsNumber n) = further n locals
number_code place further locals (NumberFails kind) = fault kind place
number_code place further locals (NumberExits v from) = finish (exited v from locals)
