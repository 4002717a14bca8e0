-- What main prints are characters alone.
use Rattle.std.proofs.Common.{◌≡◌, ◌∷◌, ◌++◌, [], ◌&&◌, Bool, true, false, List, map, if◌then◌else◌, refl, sym, ap, ◌∙◌, subst, ℕ}
use Rattle.std.specs.List.{AllByRecursion as Each}
use Rattle.std.specs.Str.{chars}
use Rattle.abstract_syntax.specs.Values.{ValueTree, ValueTrees, no_values, one_value, character, sequence, value_list}
use Rattle.abstract_syntax.specs.Classes.{SpecTree}
use Rattle.abstract_syntax.specs.Expressions.{ExprTree}
use Rattle.report_texts.specs.Printing.{printed_text, printed_value}
use Rattle.report_texts.specs.Values.{are_characters, is_character, value_text}
use Rattle.run_journal.specs.declared.answer.Answer.{Answer}
use Rattle.run_journal.specs.declared.deed.Deed.TheVariants as deed
use Rattle.run_journal.specs.declared.entry.Entry.{Entry}
use Rattle.run_journal.specs.declared.question.Question.TheVariants.{Print}
use Rattle.run_journal.specs.Made.{deed_question}
use Rattle.plans.specs.Plans.{Outcome, gives, faults, needs}
use Rattle.vdm_legal.proofs.Journals.{main_answers, made-back}
use Rattle.node_meaning.specs.Faults.{Fault}
use Rattle.node_meaning.specs.Tasks.{Flow, Query, noted, printing, needed}
use Rattle.vdm_meaning.specs.Main.{asks, main_code, standing_of}
use Rattle.vdm_meaning.specs.Runs.{IsRun}
use Rattle.vdm_meaning.proofs.Runs.{legal-for_main, run-last}
use Rattle.noted_laws.proofs.OnlyAsked.{NeedsOnly}
use Rattle.noted_laws.proofs.Noting.{IsNoPrint, IsNoted}
use Rattle.noted_laws.proofs.NotedTasks.{main-notes}

abbrev AreCharacters : List ValueTree → Type 0
AreCharacters = Each (λ (v : ValueTree). is_character v ≡ true)

-- ---- the text of values

both-true : (a b : Bool) → (a && b) ≡ true → (a ≡ true) × (b ≡ true)
both-true true b h = (refl, h)
both-true false b h = absurd (cc)

listed-characters : (vs : ValueTrees) → are_characters vs ≡ true → AreCharacters (value_list vs)
listed-characters no_values h = tt
listed-characters (one_value v vs) h = let both = both-true (is_character v) (are_characters vs) h in (both.0, listed-characters vs both.1)

text-characters : (cs : List ℕ) → AreCharacters (map character cs)
text-characters [] = tt
text-characters (c ∷ cs) = (refl, text-characters cs)

both-characters : (a b : List ValueTree) → AreCharacters a → AreCharacters b → AreCharacters (a ++ b)
both-characters [] b h k = k
both-characters (v ∷ a) b h k = (h.0, both-characters a b h.1 k)

chosen-characters : (are : Bool) (vs : ValueTrees) (cs : List ℕ) → are_characters vs ≡ are → AreCharacters (if are then value_list vs else map character cs)
chosen-characters true vs cs e = listed-characters vs e
chosen-characters false vs cs e = text-characters cs

module _ (names : List (List ℕ)) where
  value-characters : (v : ValueTree) → AreCharacters (printed_value names v)
  value-characters (sequence vs) = chosen-characters (are_characters vs) vs (chars (value_text names (sequence vs))) refl
  value-characters v = text-characters (chars (value_text names v))

  printed-characters : (vs : List ValueTree) → AreCharacters (printed_text names vs)
  printed-characters [] = tt
  printed-characters (v ∷ vs) = both-characters (printed_value names v) (printed_text names vs) (value-characters v) (printed-characters vs)

  -- ---- what main asks

  outcome-characters : (o : Outcome Flow Query Answer Fault) (text : List ValueTree) → NeedsOnly IsNoted o → standing_of names o ≡ asks (Print text) → AreCharacters text
  outcome-characters (gives flow left units) text only e = absurd (cc)
  outcome-characters (faults f []) text only e = absurd (cc)
  outcome-characters (faults f (a ∷ left)) text only e = absurd (cc)
  outcome-characters (needs (noted q)) text only e = let same : q ≡ Print text = cc in absurd (subst IsNoPrint same only)
  outcome-characters (needs (printing vs)) text only e =
      let asked : Print (printed_text names vs) ≡ Print text = cc in
      let same : printed_text names vs ≡ text = cc in
      subst AreCharacters same (printed-characters vs)
  outcome-characters (needs (needed need)) text only e = absurd only

  pub main-characters : (spec : SpecTree) (tree : ExprTree) (units : ℕ) (answers : List Answer) (text : List ValueTree) → main_code names spec tree units answers ≡ asks (Print text) → AreCharacters text
  main-characters spec tree units answers text e = outcome-characters _ text (main-notes spec tree answers units) e

  pub run-characters : (spec : SpecTree) (tree : ExprTree) (units : ℕ) (before : List Entry) (entry : Entry) (text : List ValueTree) → IsRun names spec tree units (before ++ entry ∷ []) → entry.deed ≡ deed.Print text → AreCharacters text
  run-characters spec tree units before entry text run prints =
      let legal = legal-for_main names spec tree units before entry (run-last names spec tree units before entry run) in
      let back = made-back legal.question legal.answer entry legal.made_of in
      let same : legal.question ≡ Print text = sym back.1 ∙ ap (deed_question entry.object) prints in
      main-characters spec tree units (main_answers before) text (legal.asked ∙ ap asks same)
