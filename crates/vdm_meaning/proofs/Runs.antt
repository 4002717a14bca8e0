-- Each entry of a run is main's; fronts of runs, and runs with one entry more.
use Rattle.std.proofs.Common.{◌≡◌, ℕ, List, [], ◌∷◌, ◌++◌, map, Some, refl, sym, ap, ◌∙◌, subst, append_assoc, append-nil, if◌then◌else◌}
use Rattle.std.proofs.lemmas.List.{map-append}
use Rattle.std.proofs.lemmas.List.Elements.{filter-append}
use Rattle.abstract_syntax.specs.Classes.{SpecTree}
use Rattle.abstract_syntax.specs.Expressions.{ExprTree}
use Rattle.run_journal.specs.declared.answer.Answer.{Answer}
use Rattle.run_journal.specs.declared.entry.Entry.{Entry}
use Rattle.run_journal.specs.declared.question.Question.{Question}
use Rattle.run_journal.specs.declared.thread.Thread.{Thread}
use Rattle.run_journal.specs.declared.thread.Thread.TheVariants.{Main}
use Rattle.run_journal.specs.Made.{Fits, answer_of, made}
use Rattle.run_journal.specs.Parts.{is_by, object_part, thread_part}
use Rattle.run_journal.specs.Threads.{is_thread}
use Rattle.vdm_legal.specs.AtObject.{IsLegalAtObject}
use Rattle.vdm_legal.proofs.Journals.{main_answers, made-back}
use Rattle.vdm_meaning.specs.Main.{asks, main_code}
use Rattle.vdm_meaning.specs.Entries.{IsLegalForThread, code_of}
use Rattle.vdm_meaning.specs.Runs.{IsLegal, AreLegal, IsRun}

-- main alone asks
asked-main : (names : List (List ℕ)) (spec : SpecTree) (tree : ExprTree) (units : ℕ) (thread : Thread) (answers : List Answer) (q : Question) → code_of names spec tree units thread answers ≡ asks q → thread ≡ Main
asked-main names spec tree units Main answers q e = refl
asked-main names spec tree units _ answers q e = absurd (cc)

pub main_answers-behind : (before more : List Entry) (x : Entry) → x.thread ≡ Main → main_answers (before ++ x ∷ more) ≡ main_answers before ++ answer_of x ∷ main_answers more
main_answers-behind before more x main =
    ap (map answer_of) (filter-append (is_by Main) before (x ∷ more) ∙ ap (λ t. thread_part Main before ++ (if is_thread t Main then x ∷ thread_part Main more else thread_part Main more)) main)
    ∙ map-append answer_of (thread_part Main before) (x ∷ thread_part Main more)

module _ (names : List (List ℕ)) (spec : SpecTree) (tree : ExprTree) (units : ℕ) where
  -- each entry of a run is main's
  pub legal-main : (before : List Entry) (x : Entry) → IsLegal names spec tree units before x → x.thread ≡ Main
  legal-main before x h = asked-main names spec tree units x.thread (map answer_of (thread_part x.thread before)) h.for_thread.question h.for_thread.asked

  pub legal-for_main : (before : List Entry) (x : Entry) → IsLegal names spec tree units before x → IsLegalForThread names spec tree units Main (thread_part Main before) x
  legal-for_main before x h = subst (λ t. IsLegalForThread names spec tree units t (thread_part t before) x) (legal-main before x h) h.for_thread

  pub main_part-run : (before entries : List Entry) → AreLegal names spec tree units before entries → thread_part Main entries ≡ entries
  main_part-run before [] h = refl
  main_part-run before (e ∷ entries) h =
      ap (λ t. if is_thread t Main then e ∷ thread_part Main entries else thread_part Main entries) (legal-main before e h.0)
      ∙ ap (λ xs. e ∷ xs) (main_part-run (before ++ e ∷ []) entries h.1)

  -- what is legal behind others is so entry by entry
  legal-last : (before more : List Entry) (x : Entry) → AreLegal names spec tree units before (more ++ x ∷ []) → IsLegal names spec tree units (before ++ more) x
  legal-last before [] x h = subst (λ xs. IsLegal names spec tree units xs x) (sym (append-nil before)) h.0
  legal-last before (y ∷ more) x h = subst (λ xs. IsLegal names spec tree units xs x) (append_assoc before (y ∷ []) more) (legal-last (before ++ y ∷ []) more x h.1)

  pub run-last : (before : List Entry) (x : Entry) → IsRun names spec tree units (before ++ x ∷ []) → IsLegal names spec tree units before x
  run-last before x h = legal-last [] before x h

  AreLegal-front : (before front rest : List Entry) → AreLegal names spec tree units before (front ++ rest) → AreLegal names spec tree units before front
  AreLegal-front before [] rest h = tt
  AreLegal-front before (x ∷ front) rest h = (h.0, AreLegal-front (before ++ x ∷ []) front rest h.1)

  pub run_front : (front rest : List Entry) → IsRun names spec tree units (front ++ rest) → IsRun names spec tree units front
  run_front front rest h = AreLegal-front [] front rest h

  pub legal-on : (before more : List Entry) (e : Entry) → AreLegal names spec tree units before more → IsLegal names spec tree units (before ++ more) e → AreLegal names spec tree units before (more ++ e ∷ [])
  legal-on before [] e h l = (subst (λ xs. IsLegal names spec tree units xs e) (append-nil before) l, tt)
  legal-on before (x ∷ more) e h l = (h.0, legal-on (before ++ x ∷ []) more e h.1 (subst (λ xs. IsLegal names spec tree units xs e) (sym (append_assoc before (x ∷ []) more)) l))

  of_main : (before : List Entry) (q : Question) (a : Answer) (e : Entry) → main_code names spec tree units (main_answers before) ≡ asks q → Fits q a → made Main q a ≡ Some e → IsLegalForThread names spec tree units Main (thread_part Main before) e
  of_main before q a e asked fits m = record { question = q; answer = a; asked = asked; fits = fits; made_of = m }

  pub run_on : (before : List Entry) (q : Question) (a : Answer) (e : Entry) → IsRun names spec tree units before → main_code names spec tree units (main_answers before) ≡ asks q → Fits q a → made Main q a ≡ Some e → IsLegalAtObject spec e.object (object_part e.object before) e.deed → IsRun names spec tree units (before ++ e ∷ [])
  run_on before q a e h asked fits m legal =
      let back = made-back q a e m in
      legal-on [] before e h (record {
        at_object = legal;
        for_thread = subst (λ t. IsLegalForThread names spec tree units t (thread_part t before) e) (sym back.0) (of_main before q a e asked fits m);
      })
