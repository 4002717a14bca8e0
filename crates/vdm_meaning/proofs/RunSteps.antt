-- A run as steps of main's code: what main comes to behind a run is sound.
use Rattle.std.proofs.Common.{◌≡◌, ℕ, List, [], ◌∷◌, ◌++◌, None, Some, refl, sym, ap, ◌∙◌, subst, append_assoc, append-nil}
use Rattle.abstract_syntax.specs.Classes.{SpecTree}
use Rattle.abstract_syntax.specs.Expressions.{ExprTree}
use Rattle.report_texts.specs.Printing.{printed_text}
use Rattle.run_journal.specs.declared.answer.Answer.{Answer}
use Rattle.run_journal.specs.declared.entry.Entry.{Entry}
use Rattle.run_journal.specs.declared.question.Question.{Question}
use Rattle.run_journal.specs.declared.question.Question.TheVariants.{Print}
use Rattle.run_journal.specs.declared.thread.Thread.TheVariants.{Main}
use Rattle.run_journal.specs.Made.{answer_of, made}
use Rattle.plans.specs.Plans.{Outcome, needs, run, meaning}
use Rattle.plans.specs.Steps.{Step, answers, last, Plays, MayHaveAsked, SoundBy}
use Rattle.plans.proofs.Playing.{plays-same}
use Rattle.plans.proofs.Sound.{sound}
use Rattle.vdm_legal.proofs.Journals.{main_answers, made-back}
use Rattle.vdm_legal.proofs.Taken.{legal-entry}
use Rattle.node_meaning.specs.Faults.{Fault}
use Rattle.stmt_meaning.specs.TaskPlans.{plan_of}
use Rattle.node_meaning.specs.Tasks.{Flow, Query, noted, printing, needed, spent}
use Rattle.vdm_meaning.specs.Main.{asks, over, standing_of, main_code, main_plan}
use Rattle.stmt_meaning.specs.Questions.{of_thread}
use Rattle.vdm_meaning.specs.Runs.{IsLegal, AreLegal, IsRun}
use Rattle.vdm_meaning.proofs.Main.{LeavesAnEnd, safe-main}
use Rattle.vdm_meaning.proofs.Rules.{IsTaken, IsAnswered, rules}
use Rattle.vdm_meaning.proofs.Runs.{legal-main, legal-for_main, main_answers-behind}
use Rattle.vdm_meaning.proofs.TaskPlans.{tasks-keep}

-- each entry's answer, and the entries with it
abbrev pub steps_of : List Entry → List Entry → List (Step Answer (List Entry))
steps_of before [] = []
steps_of before (e ∷ entries) = (answer_of e, before ++ e ∷ []) ∷ steps_of (before ++ e ∷ []) entries

pub last-steps : (before entries : List Entry) → last before (steps_of before entries) ≡ before ++ entries
last-steps before [] = sym (append-nil before)
last-steps before (e ∷ entries) = last-steps (before ++ e ∷ []) entries ∙ append_assoc before (e ∷ []) entries

-- ---- the steps cut in two

-- the entries of the steps that stand first, and of those behind them
pub record IsCut (before entries : List Entry) (taken more : List (Step Answer (List Entry))) : Type 0 where
  pub front : List Entry
  pub rest : List Entry
  pub all : entries ≡ front ++ rest
  pub first : taken ≡ steps_of before front
  pub behind : more ≡ steps_of (before ++ front) rest

both-parts : {X : Type 0} (x y : X) (xs ys : List X) → x ∷ xs ≡ y ∷ ys → (x ≡ y) × (xs ≡ ys)
both-parts x y xs ys e = (cc, cc)

pub cut : (before entries : List Entry) (taken more : List (Step Answer (List Entry))) → steps_of before entries ≡ taken ++ more → IsCut before entries taken more
cut before entries [] more e = record { front = []; rest = entries; all = refl; first = refl; behind = sym e ∙ ap (λ b. steps_of b entries) (sym (append-nil before)) }
cut before [] (step ∷ taken) more e = absurd (cc)
cut before (x ∷ entries) (step ∷ taken) more e =
    let both = both-parts (answer_of x, before ++ x ∷ []) step (steps_of (before ++ x ∷ []) entries) (taken ++ more) e in
    let inner = cut (before ++ x ∷ []) entries taken more both.1 in
    record {
      front = x ∷ inner.front;
      rest = inner.rest;
      all = ap (λ xs. x ∷ xs) inner.all;
      first = ap (λ s. s ∷ taken) (sym both.0) ∙ ap (λ ss. (answer_of x, before ++ x ∷ []) ∷ ss) inner.first;
      behind = inner.behind ∙ ap (λ b. steps_of b inner.rest) (append_assoc before (x ∷ []) inner.front);
    }

-- ---- what main comes to

-- what main comes to with these answers
abbrev pub main_outcome : SpecTree → ExprTree → ℕ → List Answer → Outcome Flow Query Answer Fault
main_outcome spec tree units bs = run (meaning (plan_of (of_thread spec)) spent) (main_plan spec tree) bs units

-- it is sound behind a run
abbrev pub IsMainSound : SpecTree → ExprTree → ℕ → List Entry → Outcome Flow Query Answer Fault → Type 0
IsMainSound spec tree units entries o =
    SoundBy (rules spec) LeavesAnEnd (MayHaveAsked None None units) [] [] (steps_of [] entries) (main_outcome spec tree units) o

module _ (names : List (List ℕ)) (spec : SpecTree) (tree : ExprTree) (units : ℕ) where
  answers-steps : (before entries : List Entry) → AreLegal names spec tree units before entries → main_answers before ++ answers (steps_of before entries) ≡ main_answers (before ++ entries)
  answers-steps before [] h = append-nil (main_answers before) ∙ ap main_answers (sym (append-nil before))
  answers-steps before (e ∷ entries) h =
      sym (append_assoc (main_answers before) (answer_of e ∷ []) (answers (steps_of (before ++ e ∷ []) entries)))
      ∙ ap (λ bs. bs ++ answers (steps_of (before ++ e ∷ []) entries)) (sym (main_answers-behind before [] e (legal-main names spec tree units before e h.0)))
      ∙ answers-steps (before ++ e ∷ []) entries h.1
      ∙ ap main_answers (append_assoc before (e ∷ []) entries)

  taken-legal : (before : List Entry) (e : Entry) (q : Question) → IsLegal names spec tree units before e → main_code names spec tree units (main_answers before) ≡ asks q → IsTaken spec before q (answer_of e) (before ++ e ∷ [])
  taken-legal before e q h needs_it =
      let legal = legal-for_main names spec tree units before e h in
      let back = made-back legal.question legal.answer e legal.made_of in
      let asked : asks q ≡ asks legal.question = sym needs_it ∙ legal.asked in
      let same : legal.question ≡ q = cc in
      record {
        taken = e;
        is = legal-entry spec before q (answer_of e) e (subst (λ r. made Main r (answer_of e) ≡ Some e) same (subst (λ a. made Main legal.question a ≡ Some e) (sym back.2) legal.made_of)) h.at_object;
        last = refl;
      }

  -- what is answered is a question, and no need as such
  answered-legal : (before : List Entry) (e : Entry) (q : Query) → IsLegal names spec tree units before e → main_outcome spec tree units (main_answers before) ≡ needs q → IsAnswered spec before q (answer_of e) (before ++ e ∷ [])
  answered-legal before e (noted q) h needs_it = taken-legal before e q h (ap (standing_of names) needs_it)
  answered-legal before e (printing vs) h needs_it = (
    printed_text names vs,
    taken-legal before e (Print (printed_text names vs)) h (ap (standing_of names) needs_it),
  )
  answered-legal before e (needed need) h needs_it =
      let legal = legal-for_main names spec tree units before e h in
      let never : over ≡ asks legal.question = sym (ap (standing_of names) needs_it) ∙ legal.asked in
      absurd (cc)

  plays : (before entries : List Entry) → AreLegal names spec tree units before entries → Plays (rules spec) (λ bs. main_outcome spec tree units (main_answers before ++ bs)) before (steps_of before entries)
  plays before [] h = tt
  plays before (e ∷ entries) h = (
    λ q needs_it. answered-legal before e q h.0 (ap (main_outcome spec tree units) (sym (append-nil (main_answers before))) ∙ needs_it),
    plays-same (rules spec) (λ bs. main_outcome spec tree units (main_answers (before ++ e ∷ []) ++ bs)) (λ bs. main_outcome spec tree units (main_answers before ++ answer_of e ∷ bs))
        (λ bs. ap (main_outcome spec tree units) (ap (λ front. front ++ bs) (main_answers-behind before [] e (legal-main names spec tree units before e h.0)) ∙ append_assoc (main_answers before) (answer_of e ∷ []) bs))
        (before ++ e ∷ []) (steps_of (before ++ e ∷ []) entries) (plays (before ++ e ∷ []) entries h.1),
  )

  pub run-answers : (entries : List Entry) → IsRun names spec tree units entries → answers (steps_of [] entries) ≡ main_answers entries
  run-answers entries h = answers-steps [] entries h

  -- what main comes to behind a run is sound after its steps
  pub run-sound : (entries : List Entry) → IsRun names spec tree units entries → IsMainSound spec tree units entries (main_outcome spec tree units (main_answers entries))
  run-sound entries h =
      subst (λ bs. IsMainSound spec tree units entries (main_outcome spec tree units bs)) (run-answers entries h)
      (sound (rules spec) (plan_of (of_thread spec)) spent (tasks-keep spec) (main_plan spec tree) LeavesAnEnd None [] [] (safe-main spec tree) units (steps_of [] entries) (plays [] entries h))
