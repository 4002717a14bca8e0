-- What a store has, and what it enters for a question that it answers.
use Rattle.std.specs.Prelude.{◌≡◌, List, [], ◌∷◌, ◌++◌, Some}
use Rattle.abstract_syntax.specs.Classes.{SpecTree}
use Rattle.run_journal.specs.declared.answer.Answer.{Answer}
use Rattle.run_journal.specs.declared.entry.Entry.{Entry}
use Rattle.run_journal.specs.declared.question.Question.{Question}
use Rattle.run_journal.specs.declared.question.Question.TheVariants.{New, Read, Write, Time}
use Rattle.run_journal.specs.declared.thread.Thread.{Thread}
use Rattle.run_journal.specs.Made.{made, Fits}
use Rattle.run_journal.specs.Parts.{object_part}
use Rattle.vdm_legal.specs.AtObject.{IsLegalAtObject}
use Rattle.vdm_legal.specs.Order.{IsNumbered}
use Rattle.plain_state.specs.declared.store.Store.{Store}

-- the entries that were made
abbrev pub journal : Store → List Entry
journal store = store.entries

-- One entry came behind those before it: that of the thread for the question and the answer, which fits. It is legal at its
-- object, and a new object has the number that is due.
pub record IsEntered (spec : SpecTree) (thread : Thread) (before : List Entry) (question : Question) (answer : Answer)
    (after : List Entry) : Type 0 where
  pub entry : Entry
  pub fits : Fits question answer
  pub made_of : made thread question answer ≡ Some entry
  pub is_legal : IsLegalAtObject spec entry.object (object_part entry.object before) entry.deed
  pub is_numbered : IsNumbered spec before entry.object entry.deed
  pub is_last : after ≡ before ++ entry ∷ []

-- Done is the answer to the question, if any is
abbrev pub HasNothingToTell : Question → Type 0
HasNothingToTell (New class slots) = ⊥
HasNothingToTell (Read object var) = ⊥
HasNothingToTell (Write object writes) = ⊥
HasNothingToTell Time = ⊥
HasNothingToTell _ = Unit {0}
