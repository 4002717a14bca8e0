-- Which entry of a thread may stand behind its others.
use Rattle.std.specs.Prelude.{◌≡◌, ℕ, List, map, Some}
use Rattle.abstract_syntax.specs.Classes.{SpecTree}
use Rattle.abstract_syntax.specs.Expressions.{ExprTree}
use Rattle.run_journal.specs.declared.answer.Answer.{Answer}
use Rattle.run_journal.specs.declared.entry.Entry.{Entry}
use Rattle.run_journal.specs.declared.question.Question.{Question}
use Rattle.run_journal.specs.declared.thread.Thread.{Thread}
use Rattle.run_journal.specs.declared.thread.Thread.TheVariants.{Main}
use Rattle.run_journal.specs.Made.{made, Fits, answer_of}
use Rattle.vdm_meaning.specs.Main.{Standing, asks, over, main_code}

-- where a thread stands after its answers: so far main alone is born
abbrev pub code_of : List (List ℕ) → SpecTree → ExprTree → ℕ → Thread → List Answer → Standing
code_of names spec tree units Main answers = main_code names spec tree units answers
code_of names spec tree units _ answers = over

-- An entry is legal for a thread behind the thread's entries: it is made of the question that the thread's code needs
-- after their answers, and of an answer that fits it. So nothing stands behind the thread's end or failure.
pub record IsLegalForThread
    (names : List (List ℕ)) (spec : SpecTree) (tree : ExprTree) (units : ℕ) (thread : Thread) (before : List Entry) (entry : Entry) : Type 0 where
  pub question : Question
  pub answer : Answer
  pub asked : code_of names spec tree units thread (map answer_of before) ≡ asks question
  pub fits : Fits question answer
  pub made_of : made thread question answer ≡ Some entry
