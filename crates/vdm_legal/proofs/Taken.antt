-- Which entry a question and its answer make where the entry is legal, and which answer what is ready has.
use Rattle.std.proofs.Common.{◌≡◌, ◌≢◌, ℕ, Bool, true, false, not, List, [], Some, IfSome, refl, ap, sym, ◌∙◌, subst, arith}
use Rattle.vdm_values.specs.declared.slot.Slot.{Slot}
use Rattle.abstract_syntax.specs.Classes.{SpecTree}
use Rattle.run_journal.specs.declared.answer.Answer.{Answer}
use Rattle.run_journal.specs.declared.answer.Answer.TheVariants.{Done, Object, Refused, Inner, Ticks, Slot as Holds, Host as Hosted}
use Rattle.run_journal.specs.declared.deed.Deed.TheVariants as deed
use Rattle.run_journal.specs.declared.entry.Entry.{Entry}
use Rattle.run_journal.specs.declared.question.Question.{Question}
use Rattle.run_journal.specs.declared.question.Question.TheVariants.{Class, New, Req, Act, Fin, Read, Write, Start, Print, Host, Time, End, Fail, Tick, Release}
use Rattle.run_journal.specs.declared.thread.Thread.TheVariants.{Main}
use Rattle.run_journal.specs.declared.write.Write.{Write as Pair}
use Rattle.run_journal.specs.Made.{Fits, entry, made}
use Rattle.run_journal.specs.Parts.{object_part}
use Rattle.vdm_legal.specs.AtObject.{IsLegalAtObject}
use Rattle.vdm_legal.specs.Order.{IsNumbered, next_number}
use Rattle.vdm_legal.specs.Ready.{IsReady}
use Rattle.vdm_legal.specs.State.{state_of, keeps_with, ticks}
use Rattle.vdm_legal.proofs.Journals.{object-fresh}

-- the answer to a write, by whether it was refused
abbrev pub write_answer : Bool → Answer
write_answer true = Refused
write_answer false = Done

-- main's legal entry for the question, and the answer that it was made of
abbrev pub IsEntryFor : SpecTree → List Entry → Question → Answer → Entry → Type 0
IsEntryFor spec before (Class o class slots) a e = (a ≡ Done) × (e ≡ entry Main o (deed.Class class slots))
IsEntryFor spec before (New class slots) a e = (n : ℕ) × (a ≡ Object n) × (object_part n before ≡ []) × (e ≡ entry Main n (deed.New class slots))
IsEntryFor spec before (Req o op) a e = (a ≡ Done) × (e ≡ entry Main o (deed.Req op))
IsEntryFor spec before (Act o op) a e = (a ≡ Done) × (e ≡ entry Main o (deed.Act op))
IsEntryFor spec before (Fin o op) a e = (a ≡ Done) × (e ≡ entry Main o (deed.Fin op))
IsEntryFor spec before (Read o var) a e = (slot : Slot) × (a ≡ Holds slot) × (state_of spec (object_part o before) var ≡ slot) × (e ≡ entry Main o (deed.Read var slot))
IsEntryFor spec before (Write o pairs) a e =
    (refused : Bool) × (a ≡ write_answer refused) × (refused ≡ not (keeps_with spec (object_part o before) pairs)) × (e ≡ entry Main o (deed.Write pairs refused))
IsEntryFor spec before (Print text) a e = (a ≡ Done) × (e ≡ entry Main 0 (deed.Print text))
IsEntryFor spec before Time a e = (told : ℕ) × (a ≡ Ticks told) × (ticks (object_part 0 before) ≡ told) × (e ≡ entry Main 0 (deed.Time told))
IsEntryFor spec before (End slot) a e = (a ≡ Done) × (e ≡ entry Main 0 (deed.End slot))
IsEntryFor spec before (Fail fault exit place) a e = (a ≡ Done) × (e ≡ entry Main 0 (deed.Fail fault exit place))
IsEntryFor spec before _ a e = ⊥

module _ (spec : SpecTree) (before : List Entry) where
  -- where the entry is legal, it is the one for the question
  abbrev IsEntryIfLegal : Question → Answer → Entry → Type 0
  IsEntryIfLegal q a e = IsLegalAtObject spec e.object (object_part e.object before) e.deed → IsEntryFor spec before q a e

  made-for : (q : Question) (a : Answer) → IfSome (made Main q a) (IsEntryIfLegal q a)
  made-for (Class o class slots) Done = λ legal. (refl, refl)
  made-for (New class slots) (Object n) = λ legal. (n, refl, legal.0, refl)
  made-for (Req o op) Done = λ legal. (refl, refl)
  made-for (Act o op) Done = λ legal. (refl, refl)
  made-for (Act o op) (Inner fault) = λ legal. absurd legal
  made-for (Fin o op) Done = λ legal. (refl, refl)
  made-for (Read o var) (Holds slot) = λ legal. (slot, refl, legal.1, refl)
  made-for (Write o pairs) Done = λ legal. (false, refl, legal.1, refl)
  made-for (Write o pairs) Refused = λ legal. (true, refl, legal.1, refl)
  made-for (Start o) Done = λ legal. absurd legal
  made-for (Start o) Refused = λ legal. absurd legal
  made-for (Print text) Done = λ legal. (refl, refl)
  made-for (Host o op args) (Hosted answer) = λ legal. absurd legal
  made-for Time (Ticks n) = λ legal. (n, refl, legal.1, refl)
  made-for (End slot) Done = λ legal. (refl, refl)
  made-for (Fail fault exit place) Done = λ legal. (refl, refl)
  made-for Tick Done = λ legal. absurd legal
  made-for (Release o k) Done = λ legal. absurd legal
  made-for _ _ = tt

  pub legal-entry : (q : Question) (a : Answer) (e : Entry) → made Main q a ≡ Some e → IsLegalAtObject spec e.object (object_part e.object before) e.deed → IsEntryFor spec before q a e
  legal-entry q a e m legal = subst (λ o. IfSome o (IsEntryIfLegal q a)) m (made-for q a) legal

  -- two entries for one question, both legal and numbered, are the same
  pub one-entry : (q : Question) (a b : Answer) (x y : Entry) → IsEntryFor spec before q a x → IsEntryFor spec before q b y → IsNumbered spec before x.object x.deed → IsNumbered spec before y.object y.deed → x ≡ y
  one-entry (Class o class slots) a b x y h k numbered also = h.1 ∙ sym k.1
  one-entry (New class slots) a b x y h k numbered also =
      let first : h.0 ≡ next_number spec before = subst (λ (z : Entry). IsNumbered spec before z.object z.deed) h.3 numbered in
      let second : k.0 ≡ next_number spec before = subst (λ (z : Entry). IsNumbered spec before z.object z.deed) k.3 also in
      h.3 ∙ ap (λ n. entry Main n (deed.New class slots)) (first ∙ sym second) ∙ sym k.3
  one-entry (Req o op) a b x y h k numbered also = h.1 ∙ sym k.1
  one-entry (Act o op) a b x y h k numbered also = h.1 ∙ sym k.1
  one-entry (Fin o op) a b x y h k numbered also = h.1 ∙ sym k.1
  one-entry (Read o var) a b x y h k numbered also =
      h.3 ∙ ap (λ slot. entry Main o (deed.Read var slot)) (sym h.2 ∙ k.2) ∙ sym k.3
  one-entry (Write o pairs) a b x y h k numbered also =
      h.3 ∙ ap (λ refused. entry Main o (deed.Write pairs refused)) (h.2 ∙ sym k.2) ∙ sym k.3
  one-entry (Print text) a b x y h k numbered also = h.1 ∙ sym k.1
  one-entry Time a b x y h k numbered also = h.3 ∙ ap (λ told. entry Main 0 (deed.Time told)) (sym h.2 ∙ k.2) ∙ sym k.3
  one-entry (End slot) a b x y h k numbered also = h.1 ∙ sym k.1
  one-entry (Fail fault exit place) a b x y h k numbered also = h.1 ∙ sym k.1
  one-entry _ a b x y h k numbered also = absurd h

-- ---- an answer for what is ready

-- an answer whose entry is legal and numbered
pub record HasAnswer (spec : SpecTree) (before : List Entry) (q : Question) : Type 0 where
  pub answer : Answer
  pub next : Entry
  pub fits : Fits q answer
  pub made_of : made Main q answer ≡ Some next
  pub legal : IsLegalAtObject spec next.object (object_part next.object before) next.deed
  pub numbered : IsNumbered spec before next.object next.deed

-- a write is refused where an invariant would not hold, and else is made
write-ready : (spec : SpecTree) (before : List Entry) (o : ℕ) (pairs : List Pair) (refused : Bool) → refused ≡ not (keeps_with spec (object_part o before) pairs) → object_part o before ≢ [] → HasAnswer spec before (Write o pairs)
write-ready spec before o pairs true is h = record { answer = Refused; next = entry Main o (deed.Write pairs true); fits = tt; made_of = refl; legal = (h, is); numbered = tt }
write-ready spec before o pairs false is h = record { answer = Done; next = entry Main o (deed.Write pairs false); fits = tt; made_of = refl; legal = (h, is); numbered = tt }

pub ready-answer : (spec : SpecTree) (before : List Entry) (q : Question) → IsReady spec before q → HasAnswer spec before q
ready-answer spec before (Class o class slots) h = record { answer = Done; next = entry Main o (deed.Class class slots); fits = tt; made_of = refl; legal = h; numbered = tt }
ready-answer spec before (New class slots) h =
    let n = next_number spec before in
    record {
      answer = Object n;
      next = entry Main n (deed.New class slots);
      fits = tt;
      made_of = refl;
      legal = (object-fresh spec before n (omega arith), omega arith);
      numbered = refl;
    }
ready-answer spec before (Req o op) h = record { answer = Done; next = entry Main o (deed.Req op); fits = tt; made_of = refl; legal = h; numbered = tt }
ready-answer spec before (Act o op) h = record { answer = Done; next = entry Main o (deed.Act op); fits = tt; made_of = refl; legal = h; numbered = tt }
ready-answer spec before (Fin o op) h = record { answer = Done; next = entry Main o (deed.Fin op); fits = tt; made_of = refl; legal = h; numbered = tt }
ready-answer spec before (Read o var) h =
    let slot = state_of spec (object_part o before) var in
    record { answer = Holds slot; next = entry Main o (deed.Read var slot); fits = tt; made_of = refl; legal = (h, refl); numbered = tt }
ready-answer spec before (Write o pairs) h = write-ready spec before o pairs (not (keeps_with spec (object_part o before) pairs)) refl h
ready-answer spec before (Print text) h = record { answer = Done; next = entry Main 0 (deed.Print text); fits = tt; made_of = refl; legal = h; numbered = tt }
ready-answer spec before Time h =
    let told = ticks (object_part 0 before) in
    record { answer = Ticks told; next = entry Main 0 (deed.Time told); fits = tt; made_of = refl; legal = (h, refl); numbered = tt }
ready-answer spec before (End slot) h = record { answer = Done; next = entry Main 0 (deed.End slot); fits = tt; made_of = refl; legal = h; numbered = tt }
ready-answer spec before (Fail fault exit place) h = record { answer = Done; next = entry Main 0 (deed.Fail fault exit place); fits = tt; made_of = refl; legal = h; numbered = tt }
ready-answer spec before _ h = absurd h
