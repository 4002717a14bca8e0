-- One entry further along a list, with the machine in the same place as main.
use Rattle.std.proofs.Common.{◌≡◌, ◌↔◌, ℕ, ◌+◌, ◌<◌, List, [], ◌∷◌, ◌++◌, take, drop, length, get_or, sym, ap, ◌∙◌, subst, append_assoc, append-nil, add-one, false, IsTrue}
use Rattle.std.proofs.Math.Seq.{take-suc}
use Rattle.std.proofs.lemmas.List.{drop_more}
use Rattle.abstract_syntax.specs.Classes.{SpecTree}
use Rattle.abstract_syntax.specs.Expressions.{ExprTree}
use Rattle.run_journal.specs.declared.answer.Answer.{Answer}
use Rattle.run_journal.specs.declared.entry.Entry.{Entry}
use Rattle.run_journal.specs.declared.thread.Thread.TheVariants.{Main}
use Rattle.journal_entries.specs.Laws.{MadeWhereFits}
use Rattle.run_journal.specs.Made.{answer_of}
use Rattle.vdm_meaning.specs.Main.{Standing, main_code}
use Rattle.vdm_meaning.specs.Runs.{IsLegal, AreLegal, IsRun}
use Rattle.vdm_legal.proofs.Journals.{main_answers}
use Rattle.plain_judge.specs.Asked.{IsNext}
use Rattle.plain_judge.proofs.Next.{asked-answers, next-legal}

module _ (names : List (List ℕ)) (spec : SpecTree) (tree : ExprTree) (units : ℕ) (entries : List Entry) (i : ℕ) where
  -- the entries so far are legal, so that the rest decides
  abbrev pub RestDecides : Type 0
  RestDecides = AreLegal names spec tree units (take i entries) (drop i entries) ↔ IsRun names spec tree units entries

  -- the machine stands where main stands behind the entries so far
  abbrev pub StandsThere : (List Answer → Standing) → Type 0
  StandsThere standing = (answers : List Answer) → standing answers ≡ main_code names spec tree units (main_answers (take i entries) ++ answers)

module _ (where_fits : MadeWhereFits) (names : List (List ℕ)) (spec : SpecTree) (tree : ExprTree) (units : ℕ) (entries : List Entry) (i : ℕ) (e : Entry) (within : i < length entries) (is : e ≡ get_or entries i e) where
  here : drop i entries ≡ e ∷ drop (i + 1) entries
  here = drop_more entries i e within ∙ ap (λ x. x ∷ drop (i + 1) entries) (sym is)

  longer : take (i + 1) entries ≡ take i entries ++ e ∷ []
  longer = rw (add-one) (take-suc entries i e within ∙ ap (λ x. take i entries ++ x ∷ []) (sym is))

  -- the entry is legal, and the rest decides
  decides : RestDecides names spec tree units entries i → (IsLegal names spec tree units (take i entries) e × AreLegal names spec tree units (take i entries ++ e ∷ []) (drop (i + 1) entries)) ↔ IsRun names spec tree units entries
  decides h = subst (λ rest. AreLegal names spec tree units (take i entries) rest ↔ IsRun names spec tree units entries) here h

  module _ (standing : List Answer → Standing) (stands : StandsThere names spec tree units entries i standing) where
    at_once : standing [] ≡ main_code names spec tree units (main_answers (take i entries))
    at_once = stands [] ∙ ap (main_code names spec tree units) (append-nil (main_answers (take i entries)))

    legal : IsNext spec Main (take i entries) (standing []) e ↔ IsLegal names spec tree units (take i entries) e
    legal = next-legal where_fits names spec tree units (take i entries) e (standing []) at_once

    -- an entry that may not stand next makes no run
    pub refused : RestDecides names spec tree units entries i → (IsNext spec Main (take i entries) (standing []) e → ⊥) → IsTrue false ↔ IsRun names spec tree units entries
    refused h none = ((λ no. absurd (cc)), (λ run. absurd (none (legal.1 ((decides h).1 run).0))))

    pub decides-on : RestDecides names spec tree units entries i → IsNext spec Main (take i entries) (standing []) e → RestDecides names spec tree units entries (i + 1)
    decides-on h next = (
      (λ rest. (decides h).0 (legal.0 next, subst (λ before. AreLegal names spec tree units before (drop (i + 1) entries)) longer rest)),
      (λ run. subst (λ before. AreLegal names spec tree units before (drop (i + 1) entries)) (sym longer) ((decides h).1 run).1),
    )

    answers-on : IsNext spec Main (take i entries) (standing []) e → main_answers (take (i + 1) entries) ≡ main_answers (take i entries) ++ answer_of e ∷ []
    answers-on next = ap main_answers longer ∙ asked-answers (take i entries) (standing []) e next.1

    pub stands-on : IsNext spec Main (take i entries) (standing []) e → (now : List Answer → Standing) → ((answers : List Answer) → now answers ≡ standing (answer_of e ∷ answers)) → StandsThere names spec tree units entries (i + 1) now
    stands-on next now on answers =
        on answers ∙ stands (answer_of e ∷ answers)
        ∙ ap (main_code names spec tree units) (sym (ap (λ xs. xs ++ answers) (answers-on next) ∙ append_assoc (main_answers (take i entries)) (answer_of e ∷ []) answers))
