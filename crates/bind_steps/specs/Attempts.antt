-- What comes of patterns that meet values.
use Rattle.vdm_kinds.specs.declared.place.Place.{Place}
use Rattle.node_meaning.specs.Envs.{Locals}
use Rattle.node_meaning.specs.Tasks.{Code, fault}
use Rattle.bind_steps.specs.declared.attempt.Attempt.{Attempt}
use Rattle.bind_steps.specs.declared.attempt.Attempt.TheVariants.{Matched, Missed, Fault}

-- what is done where they match, and where they do not, among the locals that there are then
abbrev pub attempted : Place → Attempt → (Locals → Code) → (Locals → Code) → Locals → Code
attempted place Matched matched missed locals = matched locals
attempted place Missed matched missed locals = missed locals
attempted place (Fault kind) matched missed locals = fault kind place
