-- A turn of a thread, and a run that goes on turn by turn.
use Rattle.std.specs.Prelude.{◌≡◌, ℕ, List, [], ◌∷◌, ◌++◌, map, None}
use Rattle.abstract_syntax.specs.Classes.{SpecTree}
use Rattle.abstract_syntax.specs.Expressions.{ExprTree}
use Rattle.run_journal.specs.declared.answer.Answer.{Answer}
use Rattle.run_journal.specs.declared.entry.Entry.{Entry}
use Rattle.run_journal.specs.declared.question.Question.{Question}
use Rattle.run_journal.specs.declared.thread.Thread.{Thread}
use Rattle.run_journal.specs.declared.thread.Thread.TheVariants.{Main}
use Rattle.run_journal.specs.Made.{answer_of}
use Rattle.run_journal.specs.Parts.{thread_part}
use Rattle.vdm_meaning.specs.Main.{Standing, asks, main_code}
use Rattle.vdm_legal.specs.Order.{IsInOrder}
use Rattle.vdm_legal.specs.Finishes.{finish_of}
use Rattle.vdm_meaning.specs.Runs.{IsRun}
use Rattle.plain_state.specs.Entered.{IsEntered}

-- What a thread asks that stands so was answered, and the entry came behind those before it.
pub record IsAnswered (spec : SpecTree) (thread : Thread) (before after : List Entry) (standing : Standing) : Type 0 where
  pub question : Question
  pub answer : Answer
  pub asked : standing ≡ asks question
  pub entered : IsEntered spec thread before question answer after

-- The thread goes on with the answer: where it stood `old` it now stands `now`.
pub record TakesTurn (spec : SpecTree) (thread : Thread) (before after : List Entry) (old now : List Answer → Standing) : Type 0 where
  pub answered : IsAnswered spec thread before after (old [])
  pub goes_on : (answers : List Answer) → now answers ≡ old (answered.answer ∷ answers)

-- A run in the order of one lane that is not at its end, and main stands where its answers lead it.
pub record GoesOn (names : List (List ℕ)) (spec : SpecTree) (tree : ExprTree) (units : ℕ) (entries : List Entry) (standing : List Answer → Standing) : Type 0 where
  pub run : IsRun names spec tree units entries
  pub order : IsInOrder spec entries
  pub open_end : finish_of entries ≡ None
  pub stands : (answers : List Answer) → standing answers ≡ main_code names spec tree units (map answer_of (thread_part Main entries) ++ answers)
