-- What one more question, answered and entered, does to a run.
use Rattle.std.proofs.Common.{◌≡◌, ◌⊎◌, inl, inr, ℕ, List, [], ◌∷◌, ◌++◌, None, refl, sym, ap, ◌∙◌, subst, append_assoc, append-nil}
use Rattle.abstract_syntax.specs.Classes.{SpecTree}
use Rattle.abstract_syntax.specs.Expressions.{ExprTree}
use Rattle.run_journal.specs.declared.answer.Answer.{Answer}
use Rattle.run_journal.specs.declared.entry.Entry.{Entry}
use Rattle.run_journal.specs.declared.question.Question.{Question}
use Rattle.run_journal.specs.declared.question.Question.TheVariants.{End, Fail}
use Rattle.run_journal.specs.declared.thread.Thread.TheVariants.{Main}
use Rattle.vdm_meaning.specs.Main.{Standing, asks, over, main_code}
use Rattle.vdm_legal.specs.Order.{IsInOrder}
use Rattle.vdm_legal.specs.Ready.{IsReady}
use Rattle.vdm_legal.specs.Finishes.{finish_of}
use Rattle.vdm_meaning.specs.Runs.{IsRun}
use Rattle.plain_state.specs.Readiness.{IsReadyFor}
use Rattle.plain_run.specs.Turns.{GoesOn, IsAnswered, TakesTurn}
use Rattle.vdm_meaning.proofs.AskedQuestions.{asked-ready}
use Rattle.vdm_meaning.proofs.GoingOn.{still_asks}
use Rattle.vdm_legal.proofs.Journals.{main_answers, answers-more, order-on}
use Rattle.vdm_meaning.proofs.Runs.{run_on}

-- what the meaning lets main ask is ready for it
ready-for_main : (spec : SpecTree) (before : List Entry) (q : Question) → IsReady spec before q → IsReadyFor spec Main before q
ready-for_main spec before (End slot) h = h
ready-for_main spec before (Fail fault exit place) h = h
ready-for_main spec before _ h = h

not_both : (q : Question) → over ≡ asks q → ⊥
not_both q e = cc

module _ (names : List (List ℕ)) (spec : SpecTree) (tree : ExprTree) (units : ℕ) (before : List Entry) (standing : List Answer → Standing) (h : GoesOn names spec tree units before standing) where
  at_once : standing [] ≡ main_code names spec tree units (main_answers before)
  at_once = h.stands [] ∙ ap (main_code names spec tree units) (append-nil (main_answers before))

  pub question-ready : (question : Question) → standing [] ≡ asks question → IsReadyFor spec Main before question
  question-ready question asked = ready-for_main spec before question (asked-ready names spec tree units before question h.run (sym at_once ∙ asked))

  -- main still asks
  pub never-over : standing [] ≡ over → ⊥
  never-over is_over =
      let more = still_asks names spec tree units before h.run h.open_end _ refl in
      not_both more.0 (sym is_over ∙ at_once ∙ more.1)

  module _ (after : List Entry) where
    answered-run : IsAnswered spec Main before after (standing []) → IsRun names spec tree units after
    answered-run a =
        let e = a.entered in
        subst (IsRun names spec tree units) (sym e.is_last) (run_on names spec tree units before a.question a.answer e.entry h.run (sym at_once ∙ a.asked) e.fits e.made_of e.is_legal)

    answered-order : IsAnswered spec Main before after (standing []) → IsInOrder spec after
    answered-order a = let e = a.entered in subst (IsInOrder spec) (sym e.is_last) (order-on spec before e.entry h.order e.is_numbered)

    answered-answers : (a : IsAnswered spec Main before after (standing [])) → main_answers after ≡ main_answers before ++ a.answer ∷ []
    answered-answers a = let e = a.entered in ap main_answers e.is_last ∙ answers-more before a.question a.answer e.entry e.made_of

    -- where a turn was cut short it is a run all the same
    pub cut-run : (after ≡ before) ⊎ IsAnswered spec Main before after (standing []) → IsRun names spec tree units after
    cut-run c = elim c [ inl same ↦ subst (IsRun names spec tree units) (sym same) h.run | inr a ↦ answered-run a ]

    pub cut-order : (after ≡ before) ⊎ IsAnswered spec Main before after (standing []) → IsInOrder spec after
    cut-order c = elim c [ inl same ↦ subst (IsInOrder spec) (sym same) h.order | inr a ↦ answered-order a ]

    module _ (now : List Answer → Standing) (t : TakesTurn spec Main before after standing now) where
      pub turn-run : IsRun names spec tree units after
      turn-run = answered-run t.answered

      pub turn-order : IsInOrder spec after
      turn-order = answered-order t.answered

      -- a turn that does not end the run
      pub turn-goes_on : finish_of after ≡ None → GoesOn names spec tree units after now
      turn-goes_on none = record {
        run = turn-run;
        order = turn-order;
        open_end = none;
        stands = λ answers.
            t.goes_on answers ∙ h.stands (t.answered.answer ∷ answers)
            ∙ ap (main_code names spec tree units) (sym (ap (λ xs. xs ++ answers) (answered-answers t.answered) ∙ append_assoc (main_answers before) (t.answered.answer ∷ []) answers));
      }

-- ---- before the first entry

pub first-goes_on : (names : List (List ℕ)) (spec : SpecTree) (tree : ExprTree) (units : ℕ) (before : List Entry) → before ≡ [] → (standing : List Answer → Standing) → ((answers : List Answer) → standing answers ≡ main_code names spec tree units answers) → GoesOn names spec tree units before standing
first-goes_on names spec tree units before none standing stands = record {
  run = subst (IsRun names spec tree units) (sym none) tt;
  order = subst (IsInOrder spec) (sym none) tt;
  open_end = ap finish_of none;
  stands = λ answers.
      stands answers ∙ ap (λ xs. main_code names spec tree units (main_answers xs ++ answers)) (sym none);
}
