-- What comes of a need: whoever evaluates says what is done about it.
use Rattle.vdm_kinds.specs.declared.place.Place.{Place}
use Rattle.vdm_values.specs.declared.slot.Slot.{Slot}
use Rattle.vdm_values.specs.declared.slot.Slot.TheVariants.{Unset}
use Rattle.abstract_syntax.specs.Classes.{SpecTree}
use Rattle.run_journal.specs.declared.answer.Answer.{Answer}
use Rattle.run_journal.specs.declared.answer.Answer.TheVariants.{Slot as Holds}
use Rattle.plans.specs.Plans.{ask}
use Rattle.node_meaning.specs.Envs.{Locals}
use Rattle.node_meaning.specs.Tasks.{Flow, gave, Need, needed, Code}

-- who evaluates: what is done about a need of the node at the place, and then with what comes of it
abbrev pub Asker : Type 0
Asker = Need → Place → Locals → (Flow → Code) → Code

-- the specification, and who evaluates
pub record Setting : Type 0 where
  pub spec : SpecTree
  pub asker : Asker

-- the slot in an answer
abbrev pub slot_in : Answer → Slot
slot_in (Holds slot) = slot
slot_in _ = Unset

-- what is done with an answer to a need as such, which is a slot
abbrev pub slot_then : (Flow → Code) → Locals → Answer → Code
slot_then further locals answer = further (gave (slot_in answer) locals)

-- whoever evaluates an expression alone asks for what is needed as such
abbrev pub evaluator : Asker
evaluator need place locals further = ask (needed need) (slot_then further locals)

abbrev pub asked : Setting → Need → Place → Locals → (Flow → Code) → Code
asked setting need place locals further = setting.asker need place locals further
