-- What holds of the entries that are made.
use Rattle.std.specs.Prelude.{◌≡◌, ◌↔◌, Some, IfSome, IsSome, IsTrue}
use Rattle.run_journal.specs.declared.thread.Thread.{Thread}
use Rattle.run_journal.specs.declared.entry.Entry.{Entry}
use Rattle.run_journal.specs.declared.question.Question.{Question}
use Rattle.run_journal.specs.declared.answer.Answer.{Answer}
use Rattle.run_journal.specs.Threads.{is_thread}
use Rattle.run_journal.specs.Made.{made, Fits, question_of, answer_of, IsPlaced}

-- the entry gives back its thread, its question and its answer, and stands where its deed belongs
pub record GivesBack (thread : Thread) (question : Question) (answer : Answer) (e : Entry) : Type 0 where
  pub thread_is : e.thread ≡ thread
  pub question_is : question_of e ≡ question
  pub answer_is : answer_of e ≡ answer
  pub is_placed : IsPlaced e

-- every entry that is made gives back what it was made of
abbrev pub EveryEntryGivesBack : Type 0
EveryEntryGivesBack = (t : Thread) (q : Question) (a : Answer) → IfSome (made t q a) (GivesBack t q a)

-- an entry is made exactly where the answer fits
abbrev pub MadeWhereFits : Type 0
MadeWhereFits = (t : Thread) (q : Question) (a : Answer) → IsSome (made t q a) ↔ Fits q a

-- every entry that stands where its deed belongs is made of its own thread, question and answer
abbrev pub EveryEntryIsMade : Type 0
EveryEntryIsMade = (e : Entry) → IsPlaced e → made e.thread (question_of e) (answer_of e) ≡ Some e

-- the test of threads is true exactly of one thread
abbrev pub ThreadsAreToldApart : Type 0
ThreadsAreToldApart = (s t : Thread) → IsTrue (is_thread s t) ↔ (s ≡ t)
