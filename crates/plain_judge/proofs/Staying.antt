-- Once a thread is over, further answers change nothing.
use Rattle.std.proofs.Common.{◌≡◌, ℕ, List, [], ◌∷◌, ◌++◌, sym, ap, ◌∙◌}
use Rattle.abstract_syntax.specs.Classes.{SpecTree}
use Rattle.abstract_syntax.specs.Expressions.{ExprTree}
use Rattle.run_journal.specs.declared.answer.Answer.{Answer}
use Rattle.noted_laws.proofs.Staying.{main-stays}
use Rattle.vdm_meaning.specs.Main.{Standing, over, main_code}
use Rattle.plain_judge.specs.Standings.{StaysOver}

module _ (f g : List Answer → Standing) where
  stays-same : ((answers : List Answer) → f answers ≡ g answers) → StaysOver g → StaysOver f
  stays-same same h taken more is = same (taken ++ more) ∙ h taken more (sym (same taken) ∙ is)

  -- one answer further on
  pub stays-behind : (a : Answer) → ((answers : List Answer) → g answers ≡ f (a ∷ answers)) → StaysOver f → StaysOver g
  stays-behind a same h taken more is = same (taken ++ more) ∙ h (a ∷ taken) more (sym (same taken) ∙ is)

-- main's machine at its beginning
pub first-stays : (names : List (List ℕ)) (spec : SpecTree) (tree : ExprTree) (units : ℕ) (standing : List Answer → Standing) → ((answers : List Answer) → standing answers ≡ main_code names spec tree units answers) → StaysOver standing
first-stays names spec tree units standing stands = stays-same standing (main_code names spec tree units) stands (main-stays names spec tree units)

-- one that is over leaves the answers that it is given
pub over-leaves : (standing : List Answer → Standing) → StaysOver standing → standing [] ≡ over → (a : Answer) (answers : List Answer) → standing answers ≡ standing (a ∷ answers)
over-leaves standing stays is a answers = stays [] answers is ∙ sym (stays [] (a ∷ answers) is)

-- one answer of those that are left is taken
pub taken-on : (standing now : List Answer → Standing) (a : Answer) (left behind : List Answer) (code : Standing) → ((answers : List Answer) → now answers ≡ standing (a ∷ answers)) → left ≡ a ∷ behind → standing left ≡ code → now behind ≡ code
taken-on standing now a left behind code on is e = on behind ∙ ap standing (sym is) ∙ e
