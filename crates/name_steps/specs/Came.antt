-- What came of a node, or its fault.
use Rattle.std.specs.Prelude.{Result, Ok, Err}
use Rattle.vdm_kinds.specs.declared.place.Place.{Place}
use Rattle.vdm_kinds.specs.declared.run_fault.RunFault.{RunFault}
use Rattle.plans.specs.Plans.{finish}
use Rattle.node_meaning.specs.Envs.{Locals}
use Rattle.node_meaning.specs.Tasks.{Code, fault}
use Rattle.eval_data.specs.declared.flow.Flow.{Flow}
use Rattle.eval_data.specs.Parts.{flow_of}

abbrev pub came_code : Place → Locals → Result Flow RunFault → Code
came_code place locals (Ok flow) = finish (flow_of flow locals)
came_code place locals (Err kind) = fault kind place
