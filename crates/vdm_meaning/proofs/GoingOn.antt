-- A run that is not finished goes on, in the order of one lane.
use Rattle.std.proofs.Common.{◌≡◌, ℕ, List, [], ◌∷◌, ◌++◌, Some, None, refl, sym, ap, ◌∙◌, subst, append_assoc}
use Rattle.vdm_kinds.specs.declared.place.Place.{Place}
use Rattle.vdm_kinds.specs.declared.run_fault.RunFault.{RunFault}
use Rattle.vdm_values.specs.declared.slot.Slot.{Slot}
use Rattle.abstract_syntax.specs.Classes.{SpecTree}
use Rattle.abstract_syntax.specs.Expressions.{ExprTree}
use Rattle.report_texts.specs.Printing.{printed_text}
use Rattle.run_journal.specs.declared.answer.Answer.{Answer}
use Rattle.run_journal.specs.declared.answer.Answer.TheVariants.{Done}
use Rattle.run_journal.specs.declared.deed.Deed.TheVariants as deed
use Rattle.run_journal.specs.declared.entry.Entry.{Entry}
use Rattle.run_journal.specs.declared.question.Question.{Question}
use Rattle.run_journal.specs.declared.question.Question.TheVariants.{Fail, Print}
use Rattle.run_journal.specs.declared.thread.Thread.TheVariants.{Main}
use Rattle.run_journal.specs.Made.{made, entry}
use Rattle.plans.specs.Plans.{Outcome, gives, faults, needs}
use Rattle.plans.specs.Steps.{answers, last}
use Rattle.vdm_legal.specs.Order.{IsInOrder}
use Rattle.vdm_legal.specs.Finishes.{decided, finish_of}
use Rattle.vdm_legal.proofs.Journals.{main_answers, neither, order-on, undecided-parts}
use Rattle.vdm_legal.proofs.Taken.{ready-answer}
use Rattle.node_meaning.specs.Faults.{Fault}
use Rattle.node_meaning.specs.Tasks.{Flow, Need, Query, noted, printing, needed}
use Rattle.vdm_meaning.specs.Main.{asks, standing_of, main_code}
use Rattle.vdm_meaning.specs.Runs.{IsRun}
use Rattle.vdm_meaning.proofs.AskedQuestions.{has_failed, asked-ready}
use Rattle.vdm_meaning.proofs.Runs.{run_front, run_on, legal-for_main, run-last}
use Rattle.vdm_meaning.proofs.RunSteps.{IsMainSound, cut, last-steps, main_outcome, run-sound, steps_of}

-- main's entry for a failure decides the run
failure-decides : (fault : RunFault) (exit : Slot) (place : Place) (a : Answer) (e : Entry) → made Main (Fail fault exit place) a ≡ Some e → decided e.thread e.deed ≡ None → ⊥
failure-decides fault exit place Done e m none =
    let same : entry Main 0 (deed.Fail fault exit place) ≡ e = cc in
    let decides = ap (λ (x : Entry). decided x.thread x.deed) same in
    cc
failure-decides fault exit place _ e m none = absurd (cc)

-- steps that answered something have a first entry
first-entry : (before rest : List Entry) (a : Answer) (left : List Answer) → answers (steps_of before rest) ≡ a ∷ left → (x : Entry) × (behind : List Entry) × (rest ≡ x ∷ behind)
first-entry before [] a left e = absurd (cc)
first-entry before (x ∷ rest) a left e = (x, rest, refl)

module _ (names : List (List ℕ)) (spec : SpecTree) (tree : ExprTree) (units : ℕ) where
  -- where main comes to a result the run is finished
  given-finished : (entries : List Entry) (flow : Flow) (left : List Answer) (u : ℕ) → IsRun names spec tree units entries → main_outcome spec tree units (main_answers entries) ≡ gives flow left u → finish_of entries ≡ None → ⊥
  given-finished entries flow left u h e none =
      let earned = subst (IsMainSound spec tree units entries) e (run-sound names spec tree units entries h) in
      let parts = cut [] entries earned.by.taken earned.by.more earned.by.all in
      let here : last [] earned.by.taken ≡ parts.front = ap (last []) parts.first ∙ last-steps [] parts.front in
      earned.leaves (ap finish_of here ∙ (undecided-parts parts.front parts.rest (ap finish_of (sym parts.all) ∙ none)).0)

  -- an entry behind those with which main fails is its failure
  failure-next : (front : List Entry) (x : Entry) (f : Fault) → IsRun names spec tree units (front ++ x ∷ []) → main_outcome spec tree units (main_answers front) ≡ faults f [] → decided x.thread x.deed ≡ None → ⊥
  failure-next front x f h e none =
      let of_main = legal-for_main names spec tree units front x (run-last names spec tree units front x h) in
      let asked : asks (Fail f.fault f.exit f.place) ≡ asks of_main.question = ap (standing_of names) (sym e) ∙ of_main.asked in
      let same : of_main.question ≡ Fail f.fault f.exit f.place = cc in
      failure-decides f.fault f.exit f.place of_main.answer x (subst (λ q. made Main q of_main.answer ≡ Some x) same of_main.made_of) none

  -- where main has failed, and an answer is left, the run is finished
  failed-finished : (entries : List Entry) (f : Fault) (a : Answer) (left : List Answer) → IsRun names spec tree units entries → main_outcome spec tree units (main_answers entries) ≡ faults f (a ∷ left) → finish_of entries ≡ None → ⊥
  failed-finished entries f a left h e none =
      let there = has_failed names spec tree units entries h f (a ∷ left) e in
      let next = first-entry there.front there.rest a left there.behind in
      let all : entries ≡ there.front ++ next.0 ∷ next.1 = there.all ∙ ap (λ xs. there.front ++ xs) next.2 in
      let apart : entries ≡ (there.front ++ next.0 ∷ []) ++ next.1 = all ∙ sym (append_assoc there.front (next.0 ∷ []) next.1) in
      let run_then : IsRun names spec tree units (there.front ++ next.0 ∷ []) = run_front names spec tree units (there.front ++ next.0 ∷ []) next.1 (subst (IsRun names spec tree units) apart h) in
      let undecided : finish_of (there.front ++ next.0 ∷ next.1) ≡ None = ap finish_of (sym all) ∙ none in
      failure-next there.front next.0 f run_then there.there (neither _ _ (undecided-parts there.front (next.0 ∷ next.1) undecided).1).0

  -- main needs no need as such
  never-needs : (entries : List Entry) (need : Need) → IsRun names spec tree units entries → main_outcome spec tree units (main_answers entries) ≡ needs (needed need) → ⊥
  never-needs entries need h e = (subst (IsMainSound spec tree units entries) e (run-sound names spec tree units entries h)).0

  -- where main needs nothing, an entry behind is the last one
  pub next-ends : (entries : List Entry) (x : Entry) → IsRun names spec tree units (entries ++ x ∷ []) → ((q : Query) → main_outcome spec tree units (main_answers entries) ≡ needs q → ⊥) → finish_of (entries ++ x ∷ []) ≡ None → ⊥
  next-ends entries x h ends none = by (main_outcome spec tree units (main_answers entries)) refl
    where
      front : IsRun names spec tree units entries
      front = run_front names spec tree units entries (x ∷ []) h

      parts : (finish_of entries ≡ None) × (finish_of (x ∷ []) ≡ None)
      parts = undecided-parts entries (x ∷ []) none

      by : (o : Outcome Flow Query Answer Fault) → main_outcome spec tree units (main_answers entries) ≡ o → ⊥
      by (gives flow left u) e = given-finished entries flow left u front e parts.0
      by (faults f []) e = failure-next entries x f h e (neither _ _ parts.1).0
      by (faults f (a ∷ left)) e = failed-finished entries f a left front e parts.0
      by (needs q) e = ends q e

  -- behind an unfinished run main asks
  pub still_asks : (entries : List Entry) → IsRun names spec tree units entries → finish_of entries ≡ None → (o : Outcome Flow Query Answer Fault) → main_outcome spec tree units (main_answers entries) ≡ o → (q : Question) × (main_code names spec tree units (main_answers entries) ≡ asks q)
  still_asks entries h none (gives flow left u) e = absurd (given-finished entries flow left u h e none)
  still_asks entries h none (faults f []) e = (Fail f.fault f.exit f.place, ap (standing_of names) e)
  still_asks entries h none (faults f (a ∷ left)) e = absurd (failed-finished entries f a left h e none)
  still_asks entries h none (needs (noted q)) e = (q, ap (standing_of names) e)
  still_asks entries h none (needs (printing vs)) e = (Print (printed_text names vs), ap (standing_of names) e)
  still_asks entries h none (needs (needed need)) e = absurd (never-needs entries need h e)

  pub run-goes_on : (entries : List Entry) → IsRun names spec tree units entries → IsInOrder spec entries → finish_of entries ≡ None → (next : Entry) × IsRun names spec tree units (entries ++ next ∷ []) × IsInOrder spec (entries ++ next ∷ [])
  run-goes_on entries h order none =
      let asked = still_asks entries h none (main_outcome spec tree units (main_answers entries)) refl in
      let found = ready-answer spec entries asked.0 (asked-ready names spec tree units entries asked.0 h asked.1) in
      (found.next, run_on names spec tree units entries asked.0 found.answer found.next h asked.1 found.fits found.made_of found.legal, order-on spec entries found.next order found.numbered)
