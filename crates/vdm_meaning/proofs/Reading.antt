-- Variables that are read keep the rules: what they hold is known.
use Rattle.std.proofs.Common.{◌≡◌, ◌++◌, ◌∷◌, [], List, refl, subst, ℕ}
use Rattle.vdm_kinds.specs.declared.member.VarRef.{VarRef}
use Rattle.vdm_values.specs.declared.slot.Slot.{Slot}
use Rattle.abstract_syntax.specs.Classes.{SpecTree}
use Rattle.run_journal.specs.declared.answer.Answer.{Answer}
use Rattle.run_journal.specs.declared.answer.Answer.TheVariants.{Slot as Holds}
use Rattle.run_journal.specs.declared.deed.Deed.TheVariants as deed
use Rattle.run_journal.specs.declared.entry.Entry.{Entry}
use Rattle.run_journal.specs.declared.question.Question.TheVariants.{Read}
use Rattle.run_journal.specs.declared.thread.Thread.TheVariants.{Main}
use Rattle.run_journal.specs.Made.{entry}
use Rattle.run_journal.specs.Parts.{object_part}
use Rattle.plans.specs.Plans.{ask}
use Rattle.vdm_legal.specs.State.{state_of}
use Rattle.vdm_legal.proofs.Known.{IsKnownSlot}
use Rattle.vdm_legal.proofs.Sanity.{IsQuiet, IsSane, IsWithin, quiet-sane, quiet-within}
use Rattle.vdm_legal.proofs.States.{state-known}
use Rattle.node_meaning.specs.Envs.{Here, Locals}
use Rattle.node_meaning.specs.Tasks.{Code, noted}
use Rattle.vdm_meaning.proofs.Rules.{IsOn, IsSafe, MayLeave}
use Rattle.vdm_meaning.proofs.Parts.{IsAt, at-later, held_slot-on}
use Rattle.vdm_meaning.proofs.Asking.{safe-Read}

read-quiet : (var : VarRef) (slot : Slot) → IsQuiet (deed.Read var slot)
read-quiet var slot = λ name. (refl, refl, refl)

module _ (spec : SpecTree) where
  read-known : (now : List Entry) (me : ℕ) (var : VarRef) (slot : Slot) → IsSane spec now → state_of spec (object_part me now) var ≡ slot → IsKnownSlot spec now slot
  read-known now me var slot sane is = subst (IsKnownSlot spec now) is (state-known spec now me var sane.known)

  -- what a variable holds, and what is done with it
  pub safe-read : (first now : List Entry) (here : Here) (locals : Locals) → IsAt spec first now here locals → (me : ℕ) (var : VarRef) (further : Answer → Code) → IsOn spec now me → ((later : List Entry) (slot : Slot) → IsWithin spec now later → IsAt spec first later here locals → IsKnownSlot spec later slot → IsSafe spec first later (further (Holds slot))) → IsSafe spec first now (ask (noted (Read me var)) further)
  safe-read first now here locals is_at me var further there goes =
      safe-Read spec (MayLeave spec) first now further me var (record { ready = there.0; sane = is_at.may.sane; turn = there.1 }) (λ slot is.
      let sane = quiet-sane now me (deed.Read var slot) (read-quiet var slot) is_at.may.sane tt refl in
      let within = quiet-within now me (deed.Read var slot) (read-quiet var slot) spec there.1 in
      let after = now ++ entry Main me (deed.Read var slot) ∷ [] in
      goes after slot within (at-later is_at within sane) (held_slot-on now after within slot (read-known now me var slot is_at.may.sane is)))
