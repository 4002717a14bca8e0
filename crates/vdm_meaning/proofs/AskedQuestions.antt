-- What main asks behind a run it may ask: it may be answered, and the run is not finished.
use Rattle.std.proofs.Common.{◌≡◌, ◌⊎◌, inl, inr, ℕ, List, [], ◌∷◌, ◌++◌, None, refl, sym, ap, ◌∙◌, subst, append-nil}
use Rattle.abstract_syntax.specs.Classes.{SpecTree}
use Rattle.abstract_syntax.specs.Expressions.{ExprTree}
use Rattle.abstract_syntax.specs.Values.{ValueTree}
use Rattle.report_texts.specs.Printing.{printed_text}
use Rattle.run_journal.specs.declared.answer.Answer.{Answer}
use Rattle.run_journal.specs.declared.entry.Entry.{Entry}
use Rattle.run_journal.specs.declared.question.Question.{Question}
use Rattle.run_journal.specs.declared.question.Question.TheVariants.{Fail, Print}
use Rattle.plans.specs.Plans.{Outcome, gives, faults, needs}
use Rattle.plans.specs.Steps.{Step, answers, last, Failed, MayHaveAsked}
use Rattle.plans.proofs.Playing.{answers-behind}
use Rattle.vdm_legal.specs.ClassObjects.{IsInTurn}
use Rattle.vdm_legal.specs.Ready.{IsReady}
use Rattle.vdm_legal.specs.Finishes.{finish_of}
use Rattle.vdm_legal.proofs.Journals.{main_answers}
use Rattle.node_meaning.specs.Faults.{Fault}
use Rattle.node_meaning.specs.Tasks.{Flow, Query, noted, printing, needed}
use Rattle.vdm_meaning.specs.Main.{asks, standing_of, main_code}
use Rattle.vdm_meaning.specs.Runs.{IsRun}
use Rattle.vdm_meaning.proofs.Rules.{MayAsk, rules}
use Rattle.vdm_meaning.proofs.Runs.{run_front}
use Rattle.vdm_meaning.proofs.RunSteps.{IsCut, IsMainSound, cut, last-steps, main_outcome, run-answers, run-sound, steps_of}

-- what main asks: what its code needs, to print, or to fail
abbrev pub IsPrint : List (List ℕ) → Outcome Flow Query Answer Fault → Question → Type 0
IsPrint names o q = (vs : List ValueTree) × (o ≡ needs (printing vs)) × (q ≡ Print (printed_text names vs))

abbrev pub IsNeedOrFault : List (List ℕ) → Outcome Flow Query Answer Fault → Question → Type 0
IsNeedOrFault names o q =
    (o ≡ needs (noted q)) ⊎ (IsPrint names o q ⊎ ((f : Fault) × (o ≡ faults f []) × (q ≡ Fail f.fault f.exit f.place)))

asked-case : (names : List (List ℕ)) (o : Outcome Flow Query Answer Fault) (q : Question) → standing_of names o ≡ asks q → IsNeedOrFault names o q
asked-case names (gives flow left u) q e = absurd (cc)
asked-case names (faults f []) q e = let same : Fail f.fault f.exit f.place ≡ q = cc in inr (inr (f, refl, sym same))
asked-case names (faults f (a ∷ left)) q e = absurd (cc)
asked-case names (needs (noted r)) q e = let same : r ≡ q = cc in inl (ap (λ x. needs (noted x)) same)
asked-case names (needs (printing vs)) q e = let same : Print (printed_text names vs) ≡ q = cc in inr (inl (vs, refl, sym same))
asked-case names (needs (needed need)) q e = absurd (cc)

-- what no answer stands in has no entry
no-answer : (before rest : List Entry) → answers (steps_of before rest) ≡ [] → rest ≡ []
no-answer before [] e = refl
no-answer before (x ∷ rest) e = absurd (cc)

-- main failed behind some front of the entries; `left` are the answers behind it
pub record HasFailed (names : List (List ℕ)) (spec : SpecTree) (tree : ExprTree) (units : ℕ) (entries : List Entry) (f : Fault) (left : List Answer) : Type 0 where
  pub front : List Entry
  pub rest : List Entry
  pub all : entries ≡ front ++ rest
  pub behind : answers (steps_of front rest) ≡ left
  pub there : main_outcome spec tree units (main_answers front) ≡ faults f []
  pub may : MayAsk spec front (Fail f.fault f.exit f.place)

module _ (names : List (List ℕ)) (spec : SpecTree) (tree : ExprTree) (units : ℕ) where
  module _ (entries : List Entry) (h : IsRun names spec tree units entries) where
    asks_for : (q : Question) → main_outcome spec tree units (main_answers entries) ≡ needs (noted q) → MayAsk spec entries q
    asks_for q e =
        let sound = subst (IsMainSound spec tree units entries) e (run-sound names spec tree units entries h) in
        subst (λ xs. MayAsk spec xs q) (last-steps [] entries) sound.0

    asks_to_print : (vs text : List ValueTree) → main_outcome spec tree units (main_answers entries) ≡ needs (printing vs) → MayAsk spec entries (Print text)
    asks_to_print vs text e =
        let sound = subst (IsMainSound spec tree units entries) e (run-sound names spec tree units entries h) in
        subst (λ xs. MayAsk spec xs (Print text)) (last-steps [] entries) (sound.0 text)

    module _ (f : Fault) (left : List Answer) (e : main_outcome spec tree units (main_answers entries) ≡ faults f left) where
      sound-failed : Failed (rules spec) (MayHaveAsked None None units) [] (steps_of [] entries) (main_outcome spec tree units) f
      sound-failed = subst (IsMainSound spec tree units entries) e (run-sound names spec tree units entries h)

      left-answers : (taken more : List (Step Answer (List Entry))) → steps_of [] entries ≡ taken ++ more → main_outcome spec tree units (answers taken ++ answers more) ≡ faults f (answers more) → answers more ≡ left
      left-answers taken more all reached =
          let same : answers (steps_of [] entries) ≡ answers taken ++ answers more = ap answers all ∙ answers-behind taken more in
          let whole : main_outcome spec tree units (answers (steps_of [] entries)) ≡ faults f left = ap (main_outcome spec tree units) (run-answers names spec tree units entries h) ∙ e in
          let known : main_outcome spec tree units (answers (steps_of [] entries)) ≡ faults f (answers more) = ap (main_outcome spec tree units) same ∙ reached in
          let is : faults f (answers more) ≡ faults f left = sym known ∙ whole in
          cc

      has_failed-by : (taken more : List (Step Answer (List Entry))) → ((bs : List Answer) → main_outcome spec tree units (answers taken ++ bs) ≡ faults f bs) → answers more ≡ left → MayAsk spec (last [] taken) (Fail f.fault f.exit f.place) → IsCut [] entries taken more → HasFailed names spec tree units entries f left
      has_failed-by taken more reached behind may parts =
          let run_then : IsRun names spec tree units parts.front = run_front names spec tree units parts.front parts.rest (subst (IsRun names spec tree units) parts.all h) in
          let same : main_answers parts.front ≡ answers taken = sym (run-answers names spec tree units parts.front run_then) ∙ ap answers (sym parts.first) in
          let none : main_outcome spec tree units (answers taken) ≡ faults f [] = ap (main_outcome spec tree units) (sym (append-nil (answers taken))) ∙ reached [] in
          record {
            front = parts.front;
            rest = parts.rest;
            all = parts.all;
            behind = ap answers (sym parts.behind) ∙ behind;
            there = ap (main_outcome spec tree units) same ∙ none;
            may = subst (λ xs. MayAsk spec xs (Fail f.fault f.exit f.place)) (ap (last []) parts.first ∙ last-steps [] parts.front) may;
          }

      pub has_failed : HasFailed names spec tree units entries f left
      has_failed =
          let there = sound-failed in
          has_failed-by there.by.taken there.by.more there.by.reached (left-answers there.by.taken there.by.more there.by.all (there.by.reached (answers there.by.more)))
          there.fails (cut [] entries there.by.taken there.by.more there.by.all)

    fails : (f : Fault) → main_outcome spec tree units (main_answers entries) ≡ faults f [] → MayAsk spec entries (Fail f.fault f.exit f.place)
    fails f e =
        let there = has_failed f [] e in
        let whole : there.front ≡ entries = sym (there.all ∙ ap (λ xs. there.front ++ xs) (no-answer there.front there.rest there.behind) ∙ append-nil there.front) in
        subst (λ xs. MayAsk spec xs (Fail f.fault f.exit f.place)) whole there.may

    pub asked : (q : Question) → main_code names spec tree units (main_answers entries) ≡ asks q → MayAsk spec entries q
    asked q e =
        elim (asked-case names (main_outcome spec tree units (main_answers entries)) q e) [
          | inl need ↦ asks_for q need
          | inr other ↦ elim other [
            | inl print ↦ subst (MayAsk spec entries) (sym print.2) (asks_to_print print.0 (printed_text names print.0) print.1)
            | inr fault ↦ subst (MayAsk spec entries) (sym fault.2) (fails fault.0 fault.1)
          ]
        ]

  pub asked-ready : (before : List Entry) (q : Question) → IsRun names spec tree units before → main_code names spec tree units (main_answers before) ≡ asks q → IsReady spec before q
  asked-ready before q h e = (asked before h q e).ready

  pub asked-in_turn : (before : List Entry) (q : Question) → IsRun names spec tree units before → main_code names spec tree units (main_answers before) ≡ asks q → IsInTurn spec before q
  asked-in_turn before q h e = (asked before h q e).turn

  pub asked-unfinished : (before : List Entry) (q : Question) → IsRun names spec tree units before → main_code names spec tree units (main_answers before) ≡ asks q → finish_of before ≡ None
  asked-unfinished before q h e = (asked before h q e).sane.unfinished
