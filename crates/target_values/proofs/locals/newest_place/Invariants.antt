use Rattle.std.proofs.Common.{◌≡◌, ◌++◌, take, drop}
use Rattle.vdm_values.specs.declared.slot.Slot.{Slot}
use Rattle.stmt_meaning.specs.Targets.{set_newest}
use Rattle.target_values.proofs.locals.newest_place.Given as goal

-- what changes stands among the first so many
abbrev pub invariant-loop-place : goal.invariant-loop-place
invariant-loop-place l =
    (slot : Slot) → set_newest l.name slot l.locals ≡ set_newest l.name slot (take l.place l.locals) ++ drop l.place l.locals
