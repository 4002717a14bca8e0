-- Another slot for a local by its place.
use Rattle.std.specs.Prelude.{ℕ, zero, suc, [], ◌∷◌, Option, Some, None}
use Rattle.vdm_values.specs.declared.slot.Slot.{Slot}
use Rattle.node_meaning.specs.Envs.{Locals}

-- the locals with another slot at the place; the same where there is none
abbrev pub at_place : Option ℕ → Slot → Locals → Locals
at_place None slot locals = locals
at_place (Some place) slot [] = []
at_place (Some zero) slot (l ∷ locals) = (l.0, slot) ∷ locals
at_place (Some (suc place)) slot (l ∷ locals) = l ∷ at_place (Some place) slot locals
