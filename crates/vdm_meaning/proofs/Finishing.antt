-- Each specification and expression have a finished run in the order of one lane.
use Rattle.std.proofs.Common.{◌≡◌, ℕ, List, [], ◌∷◌, ◌++◌, Option, Some, None, refl, sym, ap, ◌∙◌, append_assoc, append-nil, subst}
use Rattle.std.specs.Prelude.{IsSome}
use Rattle.abstract_syntax.specs.Classes.{SpecTree}
use Rattle.abstract_syntax.specs.Expressions.{ExprTree}
use Rattle.run_journal.specs.declared.answer.Answer.{Answer}
use Rattle.run_journal.specs.declared.entry.Entry.{Entry}
use Rattle.run_journal.specs.Made.{answer_of}
use Rattle.plans.specs.Plans.{Outcome}
use Rattle.vdm_legal.specs.Order.{IsInOrder}
use Rattle.vdm_legal.specs.Finishes.{Finish, finish_of}
use Rattle.vdm_legal.proofs.Journals.{main_answers}
use Rattle.node_meaning.specs.Faults.{Fault}
use Rattle.node_meaning.specs.Tasks.{Flow, Query, spent}
use Rattle.stmt_meaning.specs.Questions.{of_thread}
use Rattle.stmt_meaning.specs.TaskPlans.{plan_of}
use Rattle.vdm_meaning.specs.Main.{main_plan}
use Rattle.vdm_meaning.specs.Runs.{IsRun}
use Rattle.vdm_meaning.proofs.Ending.{EndsBy, Tree, answered, ends-same, over, plan-ends}
use Rattle.vdm_meaning.proofs.GoingOn.{next-ends, run-goes_on}
use Rattle.vdm_meaning.proofs.RunSteps.{main_outcome}
use Rattle.vdm_meaning.proofs.Runs.{legal-main, main_answers-behind, run-last}

module _ (names : List (List ℕ)) (spec : SpecTree) (tree : ExprTree) (units : ℕ) where
  -- what main comes to with further answers behind those of the entries
  abbrev outcome_behind : List Entry → List Answer → Outcome Flow Query Answer Fault
  outcome_behind entries bs = main_outcome spec tree units (main_answers entries ++ bs)

  abbrev IsFinished : Type 0
  IsFinished = (a : List Entry) × IsRun names spec tree units a × IsInOrder spec a × IsSome (finish_of a)

  -- an entry's answer goes to the answers before
  behind-one : (entries : List Entry) (x : Entry) (trees : Answer → Tree Answer) → IsRun names spec tree units (entries ++ x ∷ []) → EndsBy (answered trees) (outcome_behind entries) → EndsBy (trees (answer_of x)) (outcome_behind (entries ++ x ∷ []))
  behind-one entries x trees h ends =
      let front : main_answers (entries ++ x ∷ []) ≡ main_answers entries ++ answer_of x ∷ [] =
      main_answers-behind entries [] x (legal-main names spec tree units entries x (run-last names spec tree units entries x h)) in
      ends-same (λ bs. outcome_behind entries (answer_of x ∷ bs)) (outcome_behind (entries ++ x ∷ []))
      (λ bs. ap (main_outcome spec tree units) (sym (append_assoc (main_answers entries) (answer_of x ∷ []) bs) ∙ ap (λ those. those ++ bs) (sym front)))
      (trees (answer_of x)) (ends (answer_of x))

  -- where main needs nothing more, the entry that it goes on with is its last
  last-one : (entries : List Entry) → IsRun names spec tree units entries → IsInOrder spec entries → finish_of entries ≡ None → EndsBy over (outcome_behind entries) → IsFinished
  last-one entries h order none ends =
      let on = run-goes_on names spec tree units entries h order none in
      by on.0 on.1 on.2 (finish_of (entries ++ on.0 ∷ [])) refl
    where
      by : (x : Entry) → IsRun names spec tree units (entries ++ x ∷ []) → IsInOrder spec (entries ++ x ∷ []) → (f : Option Finish) → finish_of (entries ++ x ∷ []) ≡ f → IsFinished
      by x k also (Some f) e = (entries ++ x ∷ [], k, also, subst IsSome (sym e) refl)
      by x k also None e =
          absurd (next-ends names spec tree units entries x k
          (λ q is. ends q (ap (main_outcome spec tree units) (append-nil (main_answers entries)) ∙ is)) e)

  finish-from : (answers : Tree Answer) (entries : List Entry) → IsRun names spec tree units entries → IsInOrder spec entries → EndsBy answers (outcome_behind entries) → (f : Option Finish) → finish_of entries ≡ f → IsFinished
  finish-from answers entries h order ends (Some f) e = (entries, h, order, subst IsSome (sym e) refl)
  finish-from over entries h order ends None e = last-one entries h order e ends
  finish-from (answered trees) entries h order ends None e =
      let on = run-goes_on names spec tree units entries h order e in
      finish-from (trees (answer_of on.0)) (entries ++ on.0 ∷ []) on.1 on.2 (behind-one entries on.0 trees on.1 ends) (finish_of (entries ++ on.0 ∷ [])) refl

  pub finished_run : IsFinished
  finished_run =
      let found = plan-ends (plan_of (of_thread spec)) spent (main_plan spec tree) units in
      finish-from found.0 [] tt tt found.1 None refl
