-- Which entry may stand next, in the words of the meaning.
use Rattle.std.proofs.Common.{◌≡◌, ◌↔◌, ℕ, List, [], ◌∷◌, ◌++◌, Some, refl, sym, ◌∙◌, subst}
use Rattle.std.specs.Prelude.{IsSome}
use Rattle.abstract_syntax.specs.Classes.{SpecTree}
use Rattle.abstract_syntax.specs.Expressions.{ExprTree}
use Rattle.run_journal.specs.declared.entry.Entry.{Entry}
use Rattle.run_journal.specs.declared.thread.Thread.TheVariants.{Main}
use Rattle.journal_entries.specs.Laws.{MadeWhereFits}
use Rattle.run_journal.specs.Made.{answer_of, made}
use Rattle.run_journal.specs.Parts.{thread_part}
use Rattle.vdm_meaning.specs.Entries.{IsLegalForThread}
use Rattle.vdm_meaning.specs.Main.{Standing, asks, over, main_code}
use Rattle.vdm_meaning.specs.Runs.{IsLegal}
use Rattle.vdm_meaning.proofs.Runs.{legal-for_main, main_answers-behind}
use Rattle.vdm_legal.proofs.Journals.{main_answers, made-back}
use Rattle.plain_judge.specs.Asked.{IsAskedFor, IsNext}

asked-of_main : (standing : Standing) (e : Entry) → IsAskedFor Main standing e → e.thread ≡ Main
asked-of_main (asks q) e h = (made-back q (answer_of e) e h).0
asked-of_main over e h = absurd h

pub asked-answers : (before : List Entry) (standing : Standing) (e : Entry) → IsAskedFor Main standing e → main_answers (before ++ e ∷ []) ≡ main_answers before ++ answer_of e ∷ []
asked-answers before standing e h = main_answers-behind before [] e (asked-of_main standing e h)

module _ (where_fits : MadeWhereFits) (names : List (List ℕ)) (spec : SpecTree) (tree : ExprTree) (units : ℕ) (before : List Entry) (e : Entry) where
  legal-asked : (standing : Standing) → standing ≡ main_code names spec tree units (main_answers before) → IsLegalForThread names spec tree units Main (thread_part Main before) e → IsAskedFor Main standing e
  legal-asked standing stands h =
      let back = made-back h.question h.answer e h.made_of in
      subst (λ s. IsAskedFor Main s e) (sym (stands ∙ h.asked)) (subst (λ a. made Main h.question a ≡ Some e) (sym back.2) h.made_of)

  asked-legal : (standing : Standing) → standing ≡ main_code names spec tree units (main_answers before) → IsAskedFor Main standing e → IsLegalForThread names spec tree units e.thread (thread_part e.thread before) e
  asked-legal (asks q) stands h =
      let there : IsSome (made Main q (answer_of e)) = subst IsSome (sym h) refl in
      subst (λ t. IsLegalForThread names spec tree units t (thread_part t before) e) (sym (made-back q (answer_of e) e h).0)
      (record { question = q; answer = answer_of e; asked = sym stands; fits = (where_fits Main q (answer_of e)).0 there; made_of = h })
  asked-legal over stands h = absurd h

  -- what may stand next is what is legal
  pub next-legal : (standing : Standing) → standing ≡ main_code names spec tree units (main_answers before) → IsNext spec Main before standing e ↔ IsLegal names spec tree units before e
  next-legal standing stands = (
    (λ next. record { at_object = next.0; for_thread = asked-legal standing stands next.1 }),
    (λ legal. (legal.at_object, legal-asked standing stands (legal-for_main names spec tree units before e legal))),
  )
