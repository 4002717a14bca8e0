-- The entry that an answered question makes.
use Rattle.std.proofs.Common.{◌≡◌, ℕ, List, [], ◌∷◌, ◌++◌, Bool, true, false, not, Some, refl, sym, ap, subst, arith}
use Rattle.vdm_kinds.specs.declared.member.VarRef.{VarRef}
use Rattle.vdm_kinds.specs.declared.name.Name.{Name}
use Rattle.vdm_values.specs.declared.slot.Slot.{Slot}
use Rattle.abstract_syntax.specs.Classes.{SpecTree}
use Rattle.run_journal.specs.declared.answer.Answer.{Answer}
use Rattle.run_journal.specs.declared.answer.Answer.TheVariants.{Done, Object, Ticks, Slot as Holds}
use Rattle.run_journal.specs.declared.deed.Deed.TheVariants as deed
use Rattle.run_journal.specs.declared.entry.Entry.{Entry}
use Rattle.run_journal.specs.declared.question.Question.{Question}
use Rattle.run_journal.specs.declared.question.Question.TheVariants.{Class, New, Req, Act, Fin, Read, Write, Start, Print, Host, Time, End, Fail, Tick, Release}
use Rattle.run_journal.specs.declared.thread.Thread.{Thread}
use Rattle.run_journal.specs.declared.write.Write.{Write as Pair}
use Rattle.run_journal.specs.Made.{entry, made, Fits}
use Rattle.run_journal.specs.Parts.{object_part}
use Rattle.run_journal.specs.Threads.{own_object}
use Rattle.vdm_legal.specs.AtObject.{IsLegalAtObject}
use Rattle.vdm_legal.specs.Order.{IsNumbered, next_number}
use Rattle.vdm_legal.specs.Ready.{IsReady}
use Rattle.vdm_legal.specs.State.{keeps_with, state_of, ticks}
use Rattle.plain_state.specs.Entered.{HasNothingToTell, IsEntered}
use Rattle.plain_state.specs.Refusals.{write_answer}
use Rattle.plain_state.specs.Readiness.{IsReadyFor}
use Rattle.vdm_legal.proofs.Journals.{object-fresh}

module _ (spec : SpecTree) (thread : Thread) (before : List Entry) where
  record IsDue (e : Entry) : Type 0 where
    pub is_legal : IsLegalAtObject spec e.object (object_part e.object before) e.deed
    pub is_numbered : IsNumbered spec before e.object e.deed

  same-due : (a e : Entry) → Some a ≡ Some e → IsDue a → IsDue e
  same-due a e same due =
      let is : a ≡ e = cc in
      subst IsDue is due

  -- a question that Done answers fits it and makes a legal entry
  done-fits : (question : Question) → IsReadyFor spec thread before question → HasNothingToTell question → Fits question Done
  done-fits (Class o class slots) ready done = tt
  done-fits (Req o op) ready done = tt
  done-fits (Act o op) ready done = tt
  done-fits (Fin o op) ready done = tt
  done-fits (Write o writes) ready done = absurd done
  done-fits (End slot) ready done = tt
  done-fits (Fail fault exit place) ready done = tt
  done-fits (New class slots) ready done = absurd done
  done-fits (Read o var) ready done = absurd done
  done-fits (Start o) ready done = absurd ready
  done-fits (Print text) ready done = tt
  done-fits (Host o op args) ready done = absurd ready
  done-fits Time ready done = absurd done
  done-fits Tick ready done = absurd ready
  done-fits (Release o k) ready done = absurd ready

  done-due : (question : Question) (e : Entry) → IsReadyFor spec thread before question → HasNothingToTell question → made thread question Done ≡ Some e → IsDue e
  done-due (Class o class slots) e ready done m = same-due (entry thread o (deed.Class class slots)) e m (record { is_legal = ready; is_numbered = tt })
  done-due (Req o op) e ready done m = same-due (entry thread o (deed.Req op)) e m (record { is_legal = ready; is_numbered = tt })
  done-due (Act o op) e ready done m = same-due (entry thread o (deed.Act op)) e m (record { is_legal = ready; is_numbered = tt })
  done-due (Fin o op) e ready done m = same-due (entry thread o (deed.Fin op)) e m (record { is_legal = ready; is_numbered = tt })
  done-due (Write o writes) e ready done m = absurd done
  done-due (End slot) e ready done m = same-due (entry thread (own_object thread) (deed.End slot)) e m (record { is_legal = ready; is_numbered = tt })
  done-due (Fail fault exit place) e ready done m = same-due (entry thread (own_object thread) (deed.Fail fault exit place)) e m (record { is_legal = ready; is_numbered = tt })
  done-due (New class slots) e ready done m = absurd done
  done-due (Read o var) e ready done m = absurd done
  done-due (Start o) e ready done m = absurd ready
  done-due (Print text) e ready done m = same-due (entry thread 0 (deed.Print text)) e m (record { is_legal = ready; is_numbered = tt })
  done-due (Host o op args) e ready done m = absurd ready
  done-due Time e ready done m = absurd done
  done-due Tick e ready done m = absurd ready
  done-due (Release o k) e ready done m = absurd ready

  pub done-entered : (after : List Entry) (question : Question) (e : Entry) → IsReadyFor spec thread before question → HasNothingToTell question → made thread question Done ≡ Some e → after ≡ before ++ e ∷ [] → IsEntered spec thread before question Done after
  done-entered after question e ready done m last =
      let due = done-due question e ready done m in
      record { entry = e; fits = done-fits question ready done; made_of = m; is_legal = due.is_legal; is_numbered = due.is_numbered; is_last = last }

  pub new-entered : (after : List Entry) (class : Name) (slots : List Slot) (number : ℕ) → number ≡ next_number spec before → after ≡ before ++ entry thread number (deed.New class slots) ∷ [] → IsEntered spec thread before (New class slots) (Object number) after
  new-entered after class slots number due last =
      record { entry = entry thread number (deed.New class slots); fits = tt; made_of = refl; is_legal = (object-fresh spec before number (omega arith), omega arith); is_numbered = due; is_last = last }

  pub read-entered : (after : List Entry) (o : ℕ) (var : VarRef) (slot : Slot) → IsReady spec before (Read o var) → slot ≡ state_of spec (object_part o before) var → after ≡ before ++ entry thread o (deed.Read var slot) ∷ [] → IsEntered spec thread before (Read o var) (Holds slot) after
  read-entered after o var slot ready held last =
      record { entry = entry thread o (deed.Read var slot); fits = tt; made_of = refl; is_legal = (ready, sym held); is_numbered = tt; is_last = last }

  write-answered : (after : List Entry) (o : ℕ) (writes : List Pair) (kept : Bool) → IsReady spec before (Write o writes) → kept ≡ keeps_with spec (object_part o before) writes → after ≡ before ++ entry thread o (deed.Write writes (not kept)) ∷ [] → IsEntered spec thread before (Write o writes) (write_answer kept) after
  write-answered after o writes true ready kept last =
      record { entry = entry thread o (deed.Write writes false); fits = tt; made_of = refl; is_legal = (ready, ap not kept); is_numbered = tt; is_last = last }
  write-answered after o writes false ready kept last =
      record { entry = entry thread o (deed.Write writes true); fits = tt; made_of = refl; is_legal = (ready, ap not kept); is_numbered = tt; is_last = last }

  pub write-entered : (after : List Entry) (o : ℕ) (writes : List Pair) (kept : Bool) (answer : Answer) → IsReady spec before (Write o writes) → kept ≡ keeps_with spec (object_part o before) writes → answer ≡ write_answer kept → after ≡ before ++ entry thread o (deed.Write writes (not kept)) ∷ [] → IsEntered spec thread before (Write o writes) answer after
  write-entered after o writes kept answer ready holds is last =
      subst (λ (a : Answer). IsEntered spec thread before (Write o writes) a after) (sym is) (write-answered after o writes kept ready holds last)

  pub time-entered : (after : List Entry) (told : ℕ) → IsReady spec before Time → told ≡ ticks (object_part 0 before) → after ≡ before ++ entry thread 0 (deed.Time told) ∷ [] → IsEntered spec thread before Time (Ticks told) after
  time-entered after told ready is last =
      record { entry = entry thread 0 (deed.Time told); fits = tt; made_of = refl; is_legal = (ready, sym is); is_numbered = tt; is_last = last }
