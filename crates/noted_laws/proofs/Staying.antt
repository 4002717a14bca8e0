-- Main has no need as such; and once it is over, further answers change nothing.
use Rattle.std.proofs.Common.{◌≡◌, ◌≢◌, ℕ, List, [], ◌∷◌, ◌++◌, refl}
use Rattle.abstract_syntax.specs.Classes.{SpecTree}
use Rattle.abstract_syntax.specs.Expressions.{ExprTree}
use Rattle.run_journal.specs.declared.answer.Answer.{Answer}
use Rattle.plans.specs.Plans.{Outcome, gives, faults, needs, run, meaning, Outlasts}
use Rattle.plans.proofs.Adding.{reached, run-outlasts}
use Rattle.node_meaning.specs.Faults.{Fault}
use Rattle.stmt_meaning.specs.TaskPlans.{plan_of}
use Rattle.node_meaning.specs.Tasks.{Flow, Need, Query, noted, printing, needed, spent}
use Rattle.vdm_meaning.specs.Main.{over, standing_of, main_plan, main_code}
use Rattle.stmt_meaning.specs.Questions.{of_thread}
use Rattle.noted_laws.proofs.OnlyAsked.{NeedsOnly}
use Rattle.noted_laws.proofs.Noting.{IsNoted}
use Rattle.noted_laws.proofs.NotedTasks.{main-notes}

no_bare-need : (o : Outcome Flow Query Answer Fault) (need : Need) → NeedsOnly IsNoted o → o ≢ needs (needed need)
no_bare-need (gives flow left units) need only is = cc
no_bare-need (faults f left) need only is = cc
no_bare-need (needs (noted q)) need only is = cc
no_bare-need (needs (printing vs)) need only is = cc
no_bare-need (needs (needed other)) need only is = only

pub no-need : (spec : SpecTree) (tree : ExprTree) (answers : List Answer) (units : ℕ) (need : Need) → run (meaning (plan_of (of_thread spec)) spent) (main_plan spec tree) answers units ≢ needs (needed need)
no-need spec tree answers units need =
    no_bare-need (run (meaning (plan_of (of_thread spec)) spent) (main_plan spec tree) answers units) need (main-notes spec tree answers units)

outlasting : (names : List (List ℕ)) (more : List Answer) (o longer : Outcome Flow Query Answer Fault) → NeedsOnly IsNoted o → Outlasts more o longer → standing_of names o ≡ over → standing_of names longer ≡ over
outlasting names more (gives flow left units) longer only e h = rw e refl
outlasting names more (faults f []) longer only e h = absurd (cc)
outlasting names more (faults f (a ∷ left)) longer only e h = rw e refl
outlasting names more (needs (noted q)) longer only e h = absurd (cc)
outlasting names more (needs (printing vs)) longer only e h = absurd (cc)
outlasting names more (needs (needed need)) longer only e h = absurd only

pub main-stays : (names : List (List ℕ)) (spec : SpecTree) (tree : ExprTree) (units : ℕ) (taken more : List Answer) → main_code names spec tree units taken ≡ over → main_code names spec tree units (taken ++ more) ≡ over
main-stays names spec tree units taken more h =
    outlasting names more _ _ (main-notes spec tree taken units)
    (run-outlasts more (meaning (plan_of (of_thread spec)) spent) (λ t bs u. reached (plan_of (of_thread spec)) spent t bs more u) (main_plan spec tree) taken units) h
