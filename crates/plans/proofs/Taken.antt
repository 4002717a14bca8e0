-- An outcome that was reached took some answers from the front, and takes them whatever stands behind.
use Rattle.std.proofs.Common.{◌≡◌, ℕ, List, ◌++◌, None, refl, sym, ap, ◌∙◌, subst}
use Rattle.plans.specs.Plans.{Plan, Outcome, gives, faults, needs, run, meaning, TakesFrom}
use Rattle.plans.specs.Laws.{AnswersAreTakenFromTheFront}
use Rattle.plans.specs.Steps.{answers, KeepRules, MayHaveAsked, Reached, SoundBy}
use Rattle.plans.proofs.Free.{free, any_result, answering, answers-answering, free-plays, free-safe}
use Rattle.plans.proofs.Playing.{answers-behind}
use Rattle.plans.proofs.Sound.{sound}

module _ {R Q A F : Type 0} (f : List A → Outcome R Q A F) (bs : List A) where
  -- what was reached with these answers is known with all of them, and so are the answers that it left
  all-answers : (o : List A → Outcome R Q A F) (r : Reached (answering bs) f o) → bs ≡ answers r.taken ++ answers r.more
  all-answers o r = sym (answers-answering bs) ∙ ap answers r.all ∙ answers-behind r.taken r.more

  takes-by : (T : Type 0) (o : Outcome R Q A F) → f bs ≡ o → SoundBy (free {T = T} None) any_result (MayHaveAsked None None 0) tt tt (answering bs) f o → TakesFrom f bs o
  takes-by T (gives r left v) is e =
      let all = all-answers (λ cs. gives r cs v) e.by in
      let whole = sym is ∙ ap f all ∙ e.by.reached (answers e.by.more) in
      let same : answers e.by.more ≡ left = cc in
      (answers e.by.taken, all ∙ ap (λ cs. answers e.by.taken ++ cs) same, e.by.reached)
  takes-by T (faults fault left) is e =
      let all = all-answers (λ cs. faults fault cs) e.by in
      let whole = sym is ∙ ap f all ∙ e.by.reached (answers e.by.more) in
      let same : answers e.by.more ≡ left = cc in
      (answers e.by.taken, all ∙ ap (λ cs. answers e.by.taken ++ cs) same, e.by.reached)
  takes-by T (needs q) is e = tt

module _ {T R Q A F : Type 0} (plan : T → Plan T R Q A F) (spent : T → F) where
  keep : KeepRules (free None) plan spent
  keep = record { plans = λ t h fits. free-safe None h h (plan t); stops = λ t h fits. tt }

  -- what a plan comes to took answers from the front
  pub plan-takes : (p : Plan T R Q A F) (bs : List A) (u : ℕ) → TakesFrom (λ cs. run (meaning plan spent) p cs u) bs (run (meaning plan spent) p bs u)
  plan-takes p bs u =
      let f : List A → Outcome R Q A F = λ cs. run (meaning plan spent) p cs u in
      let sound = sound (free None) plan spent keep p any_result None tt tt (free-safe None tt tt p) u (answering bs) (free-plays T None f tt (answering bs)) in
      takes-by f bs T (f bs) refl (subst (λ cs. SoundBy (free {T = T} None) any_result (MayHaveAsked None None 0) tt tt (answering bs) f (f cs)) (answers-answering bs) sound)

pub answers-are-taken-from-the-front : {T R Q A F : Type 0} → AnswersAreTakenFromTheFront T R Q A F
answers-are-taken-from-the-front = plan-takes
