-- Plans that ask: what has to hold of the question, and of what follows its answer.
use Rattle.std.proofs.Common.{◌≡◌, ◌++◌, ◌∷◌, [], Bool, List, subst, sym, ℕ}
use Rattle.vdm_kinds.specs.declared.member.VarRef.{VarRef}
use Rattle.vdm_kinds.specs.declared.name.Name.{Name}
use Rattle.vdm_values.specs.declared.slot.Slot.{Slot}
use Rattle.abstract_syntax.specs.Classes.{SpecTree}
use Rattle.abstract_syntax.specs.Values.{ValueTree}
use Rattle.run_journal.specs.declared.answer.Answer.{Answer}
use Rattle.run_journal.specs.declared.entry.Entry.{Entry}
use Rattle.run_journal.specs.declared.question.Question.{Question}
use Rattle.run_journal.specs.declared.question.Question.TheVariants.{New, Print, Read, Time, Write}
use Rattle.run_journal.specs.declared.thread.Thread.TheVariants.{Main}
use Rattle.run_journal.specs.declared.write.Write.{Write as Pair}
use Rattle.run_journal.specs.Made.{entry}
use Rattle.run_journal.specs.Parts.{object_part}
use Rattle.run_journal.specs.declared.answer.Answer.TheVariants.{Done, Object, Slot as Holds, Ticks}
use Rattle.run_journal.specs.declared.deed.Deed.TheVariants as deed
use Rattle.plans.specs.Plans.{ask}
use Rattle.vdm_legal.specs.State.{state_of}
use Rattle.vdm_legal.proofs.Taken.{IsEntryFor, write_answer}
use Rattle.node_meaning.specs.Tasks.{Code, Flow, noted, printing}
use Rattle.vdm_meaning.proofs.Rules.{Keeps, MayAsk}

module _ (spec : SpecTree) (left : List Entry → Flow → Type 0) (first before : List Entry) (further : Answer → Code) where
  -- what follows a known answer, behind its known entry
  safe-behind : (a b : Answer) (after : List Entry) (taken e : Entry) → a ≡ b → taken ≡ e → after ≡ before ++ taken ∷ [] → Keeps spec left first (before ++ e ∷ []) (further b) → Keeps spec left first after (further a)
  safe-behind a b after taken e same is last h =
      subst (λ k. Keeps spec left first k (further a)) (sym last)
      (subst (λ x. Keeps spec left first (before ++ x ∷ []) (further a)) (sym is)
      (subst (λ c. Keeps spec left first (before ++ e ∷ []) (further c)) (sym same) h))

  -- a question with one answer and one entry alone
  pub safe-ask : (q : Question) (e : Entry) → ((a : Answer) (taken : Entry) → IsEntryFor spec before q a taken → (a ≡ Done) × (taken ≡ e)) → MayAsk spec before q → Keeps spec left first (before ++ e ∷ []) (further Done) → Keeps spec left first before (ask (noted q) further)
  safe-ask q e one may h = (may, λ a after t. let is = one a t.taken t.is in safe-behind a Done after t.taken e is.0 is.1 t.last h)

  pub safe-New : (class : Name) (slots : List Slot) → MayAsk spec before (New class slots) → ((o : ℕ) → Keeps spec left first (before ++ entry Main o (deed.New class slots) ∷ []) (further (Object o))) → Keeps spec left first before (ask (noted (New class slots)) further)
  safe-New class slots may h = (may, λ a after t. safe-behind a (Object t.is.0) after t.taken (entry Main t.is.0 (deed.New class slots)) t.is.1 t.is.3 t.last (h t.is.0))

  pub safe-Read : (o : ℕ) (var : VarRef) → MayAsk spec before (Read o var) → ((slot : Slot) → state_of spec (object_part o before) var ≡ slot → Keeps spec left first (before ++ entry Main o (deed.Read var slot) ∷ []) (further (Holds slot))) → Keeps spec left first before (ask (noted (Read o var)) further)
  safe-Read o var may h = (may, λ a after t. safe-behind a (Holds t.is.0) after t.taken (entry Main o (deed.Read var t.is.0)) t.is.1 t.is.3 t.last (h t.is.0 t.is.2))

  -- whether it is refused or not
  pub safe-Write : (o : ℕ) (pairs : List Pair) → MayAsk spec before (Write o pairs) → ((refused : Bool) → Keeps spec left first (before ++ entry Main o (deed.Write pairs refused) ∷ []) (further (write_answer refused))) → Keeps spec left first before (ask (noted (Write o pairs)) further)
  safe-Write o pairs may h = (may, λ a after t. safe-behind a (write_answer t.is.0) after t.taken (entry Main o (deed.Write pairs t.is.0)) t.is.1 t.is.3 t.last (h t.is.0))

  -- whatever is printed
  pub safe-printing : (vs : List ValueTree) → ((text : List ValueTree) → MayAsk spec before (Print text)) → ((text : List ValueTree) → Keeps spec left first (before ++ entry Main 0 (deed.Print text) ∷ []) (further Done)) → Keeps spec left first before (ask (printing vs) further)
  safe-printing vs may h = (may, λ a after t. safe-behind a Done after t.1.taken (entry Main 0 (deed.Print t.0)) t.1.is.0 t.1.is.1 t.1.last (h t.0))

  pub safe-Time : MayAsk spec before Time → ((told : ℕ) → Keeps spec left first (before ++ entry Main 0 (deed.Time told) ∷ []) (further (Ticks told))) → Keeps spec left first before (ask (noted Time) further)
  safe-Time may h = (may, λ a after t. safe-behind a (Ticks t.is.0) after t.taken (entry Main 0 (deed.Time t.is.0)) t.is.1 t.is.3 t.last (h t.is.0))
