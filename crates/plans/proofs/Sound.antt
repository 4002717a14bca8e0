-- A plan that keeps the rules is sound: each result was earned, each fault may be failed with, and each question may be asked and is one of few.
use Rattle.std.proofs.Common.{◌≡◌, ℕ, zero, suc, List, [], ◌∷◌, ◌++◌, length, Option, Some, refl, sym, ap, ◌∙◌, subst}
use Rattle.plans.specs.Plans.{Plan, Outcome, finish, fail, ask, part, become, gives, faults, needs, onward, run, go, meaning}
use Rattle.plans.specs.Steps.{Rules, Step, answers, last, Plays, Safe, KeepRules, MayHaveAsked, Reached, SoundBy, Sound}
use Rattle.plans.specs.Laws.{StepsAreSound}
use Rattle.plans.proofs.Asking.{asked-none, asked-nothing, asked-wider, asked-entering, asked-behind, rising, one-of}
use Rattle.plans.proofs.Playing.{answers-behind, plays-first, plays-behind, plays-same}

-- what was reached without a step was reached
abbrev reached-now : {R Q A F H : Type 0} (steps : List (Step A H)) (f : List A → Outcome R Q A F) → Reached steps f f
reached-now steps f = record { taken = []; more = steps; all = refl; reached = λ bs. refl }

module _ {T R Q A F H : Type 0} (rules : Rules T R Q A F H) where
  -- a sound outcome is sound by wider results and counts, and of what always comes to the same
  sound-as : (inner left : H → R → Type 0) (Few More : ℕ → ℕ → Type 0) (begun first h : H) (steps : List (Step A H)) (f g : List A → Outcome R Q A F) → ((k : H) (r : R) → rules.Within begun k → inner k r → rules.Within first k × left k r) → ((c v : ℕ) → Few c v → More c v) → ((bs : List A) → f bs ≡ g bs) → (o : Outcome R Q A F) → SoundBy rules inner Few begun h steps f o → SoundBy rules left More first h steps g o
  sound-as inner left Few More begun first h steps f g wider few same (gives r rest v) e =
      let ends = wider (last h e.by.taken) r e.within e.leaves in
      record {
        by = record { taken = e.by.taken; more = e.by.more; all = e.by.all; reached = λ bs. sym (same (answers e.by.taken ++ bs)) ∙ e.by.reached bs };
        within = ends.0;
        leaves = ends.1;
        few = few (length e.by.taken) v e.few;
      }
  sound-as inner left Few More begun first h steps f g wider few same (faults fault rest) e = record {
    by = record { taken = e.by.taken; more = e.by.more; all = e.by.all; reached = λ bs. sym (same (answers e.by.taken ++ bs)) ∙ e.by.reached bs };
    fails = e.fails;
    few = few (length e.by.taken) 0 e.few;
  }
  sound-as inner left Few More begun first h steps f g wider few same (needs q) e = (e.0, few (suc (length steps)) 0 e.1)

  module _ (left : H → R → Type 0) (first : H) where
    sound-few : (Few More : ℕ → ℕ → Type 0) (h : H) (steps : List (Step A H)) (f : List A → Outcome R Q A F) (o : Outcome R Q A F) → ((c v : ℕ) → Few c v → More c v) → SoundBy rules left Few first h steps f o → SoundBy rules left More first h steps f o
    sound-few Few More h steps f o few = sound-as left left Few More first first h steps f f (λ k r within leaves. (within, leaves)) few (λ bs. refl) o

    -- a sound outcome behind a step is sound from before it
    sound-from : (Few : ℕ → ℕ → Type 0) (h : H) (step : Step A H) (steps : List (Step A H)) (f : List A → Outcome R Q A F) (o : Outcome R Q A F) → SoundBy rules left (λ c v. Few (suc c) v) first step.1 steps (λ bs. f (step.0 ∷ bs)) o → SoundBy rules left Few first h (step ∷ steps) f o
    sound-from Few h step steps f (gives r rest v) e = record {
      by = record { taken = step ∷ e.by.taken; more = e.by.more; all = ap (λ ss. step ∷ ss) e.by.all; reached = e.by.reached };
      within = e.within;
      leaves = e.leaves;
      few = e.few;
    }
    sound-from Few h step steps f (faults fault rest) e = record {
      by = record { taken = step ∷ e.by.taken; more = e.by.more; all = ap (λ ss. step ∷ ss) e.by.all; reached = e.by.reached };
      fails = e.fails;
      few = e.few;
    }
    sound-from Few h step steps f (needs q) e = e

    sound-behind : (Few : ℕ → ℕ → Type 0) (h : H) (taken more : List (Step A H)) (f : List A → Outcome R Q A F) (o : Outcome R Q A F) → SoundBy rules left (λ c v. Few (rising taken c) v) first (last h taken) more (λ bs. f (answers taken ++ bs)) o → SoundBy rules left Few first h (taken ++ more) f o
    sound-behind Few h [] more f o e = e
    sound-behind Few h (step ∷ taken) more f o e = sound-from Few h step (taken ++ more) f o (sound-behind (λ c v. Few (suc c) v) step.1 taken more (λ bs. f (step.0 ∷ bs)) o e)

  module _ (f : List A → Outcome R Q A F) (next : R → List A → ℕ → Outcome R Q A F) (inner left : H → R → Type 0) (n : Option ℕ) (first h : H) (u : ℕ) (follows : (k : H) (r : R) (v : ℕ) (more : List (Step A H)) → rules.Within h k → inner k r → Plays rules (λ bs. next r bs v) k more → Sound rules left n first k v more (λ bs. next r bs v)) where
    -- the task's result, and all that follows it
    onward-earned : (taken more : List (Step A H)) (r : R) (v : ℕ) → ((bs : List A) → f (answers taken ++ bs) ≡ gives r bs v) → rules.Within h (last h taken) → inner (last h taken) r → MayHaveAsked rules.own (Some 0) u (length taken) v → Plays rules (λ bs. onward (f bs) next) h (taken ++ more) → Sound rules left n first h u (taken ++ more) (λ bs. onward (f bs) next)
    onward-earned taken more r v reached within leaves few plays =
        let goes : (bs : List A) → onward (f (answers taken ++ bs)) next ≡ next r bs v = λ bs. ap (λ o. onward o next) (reached bs) in
        let rest : Plays rules (λ bs. next r bs v) (last h taken) more = plays-same rules (λ bs. onward (f (answers taken ++ bs)) next) (λ bs. next r bs v) goes (last h taken) more (plays-behind rules (λ bs. onward (f bs) next) h taken more plays) in
        let there : SoundBy rules left (λ c w. MayHaveAsked rules.own n u (rising taken c) w) first (last h taken) more (λ bs. onward (f (answers taken ++ bs)) next) (next r (answers more) v) = sound-as left left (MayHaveAsked rules.own n v) (λ c w. MayHaveAsked rules.own n u (rising taken c) w) first first (last h taken) more (λ bs. next r bs v) (λ bs. onward (f (answers taken ++ bs)) next) (λ k s w l. (w, l)) (λ c w asked. asked-behind rules.own n taken u v c w few asked) (λ bs. sym (goes bs)) (next r (answers more) v) (follows (last h taken) r v more within leaves rest) in
        subst (λ o. SoundBy rules left (MayHaveAsked rules.own n u) first h (taken ++ more) (λ bs. onward (f bs) next) o) (sym (ap (λ bs. onward (f bs) next) (answers-behind taken more) ∙ goes (answers more))) (sound-behind left first (MayHaveAsked rules.own n u) h taken more (λ bs. onward (f bs) next) (next r (answers more) v) there)

    -- where a sound outcome is followed soundly, the whole is sound
    onward-sound : (steps : List (Step A H)) (o : Outcome R Q A F) → f (answers steps) ≡ o → SoundBy rules inner (MayHaveAsked rules.own (Some 0) u) h h steps f o → Plays rules (λ bs. onward (f bs) next) h steps → SoundBy rules left (MayHaveAsked rules.own n u) first h steps (λ bs. onward (f bs) next) (onward o next)
    onward-sound steps (gives r rest v) is e plays =
        let whole : Sound rules left n first h u steps (λ bs. onward (f bs) next) = subst (λ ss. Sound rules left n first h u ss (λ bs. onward (f bs) next)) (sym e.by.all) (onward-earned e.by.taken e.by.more r v e.by.reached e.within e.leaves e.few (subst (λ ss. Plays rules (λ bs. onward (f bs) next) h ss) e.by.all plays)) in
        subst (λ o. SoundBy rules left (MayHaveAsked rules.own n u) first h steps (λ bs. onward (f bs) next) (onward o next)) is whole
    onward-sound steps (faults fault rest) is e plays = record {
      by = record { taken = e.by.taken; more = e.by.more; all = e.by.all; reached = λ bs. ap (λ o. onward o next) (e.by.reached bs) };
      fails = e.fails;
      few = asked-wider rules.own n u (length e.by.taken) 0 e.few;
    }
    onward-sound steps (needs q) is e plays = (e.0, asked-wider rules.own n u (suc (length steps)) 0 e.1)

  -- ---- each plan

  module _ (means : T → List A → ℕ → Outcome R Q A F) (task : (t : T) (h : H) → rules.Fits h t → (u : ℕ) (steps : List (Step A H)) → Plays rules (λ bs. means t bs u) h steps → Sound rules (rules.Leaves t) (Some 0) h h u steps (λ bs. means t bs u)) where
    -- a question, and what follows its answer
    ask-sound : (q : Q) (then : A → Plan T R Q A F) (left : H → R → Type 0) (n m : Option ℕ) (first h : H) (u : ℕ) → rules.Ready h q → ((c v : ℕ) → MayHaveAsked rules.own m u c v → MayHaveAsked rules.own n u (suc c) v) → (steps : List (Step A H)) → ((step : Step A H) (more : List (Step A H)) → rules.Takes h q step.0 step.1 → Plays rules (λ bs. run means (then step.0) bs u) step.1 more → Sound rules left m first step.1 u more (λ bs. run means (then step.0) bs u)) → Plays rules (λ bs. run means (ask q then) bs u) h steps → Sound rules left n first h u steps (λ bs. run means (ask q then) bs u)
    ask-sound q then left n m first h u ready one [] follows plays = (ready, one 0 0 (asked-nothing rules.own m u))
    ask-sound q then left n m first h u ready one (step ∷ steps) follows plays =
        let o = run means (then step.0) (answers steps) u in
        sound-from left first (MayHaveAsked rules.own n u) h step steps (λ bs. run means (ask q then) bs u) o
        (sound-few left first (MayHaveAsked rules.own m u) (λ c v. MayHaveAsked rules.own n u (suc c) v) step.1 steps (λ bs. run means (then step.0) bs u) o one (follows step steps (plays.0 q refl) plays.1))

    run-sound : (p : Plan T R Q A F) (left : H → R → Type 0) (n : Option ℕ) (first h : H) → Safe rules left n first h p → (u : ℕ) (steps : List (Step A H)) → Plays rules (λ bs. run means p bs u) h steps → Sound rules left n first h u steps (λ bs. run means p bs u)
    run-sound (finish r) left n first h safe u steps plays = record { by = reached-now steps (λ bs. gives r bs u); within = safe.0; leaves = safe.1; few = asked-none rules.own n u }
    run-sound (fail f) left n first h safe u steps plays = record { by = reached-now steps (λ bs. faults f bs); fails = safe; few = asked-nothing rules.own n u }
    run-sound (ask q then) left n first h safe u steps plays =
        let one = one-of n (λ m. (a : A) (k : H) → rules.Takes h q a k → Safe rules left m first k (then a)) safe.1 in
        ask-sound q then left n one.0 first h u safe.0 (one.2 rules.own u) steps (λ step more takes played. run-sound (then step.0) left one.0 first step.1 (one.1 step.0 step.1 takes) u more played) plays
    run-sound (part t then) left n first h safe u steps plays = onward-sound (λ bs. means t bs u) (λ r. run means (then r)) (rules.Leaves t) left n first h u (λ k r v more within leaves played. run-sound (then r) left n first k (safe.1 k r within leaves) v more played) steps (means t (answers steps) u) refl (task t h safe.0 u steps (plays-first rules (λ bs. means t bs u) (λ r. run means (then r)) h steps plays)) plays
    run-sound (become t) left n first h safe u steps plays = sound-as (rules.Leaves t) left (MayHaveAsked rules.own (Some 0) u) (MayHaveAsked rules.own n u) h first h steps (λ bs. means t bs u) (λ bs. means t bs u) safe.1 (asked-wider rules.own n u) (λ bs. refl) (means t (answers steps) u) (task t h safe.0 u steps plays)

module _ {T R Q A F H : Type 0} (rules : Rules T R Q A F H) (plan : T → Plan T R Q A F) (spent : T → F) (keep : KeepRules rules plan spent) where
  go-stops : (t : T) (h : H) → rules.Fits h t → (u : ℕ) (steps : List (Step A H)) → Sound rules (rules.Leaves t) (Some 0) h h u steps (λ bs. faults (spent t) bs)
  go-stops t h fits u steps = record { by = reached-now steps (λ bs. faults (spent t) bs); fails = keep.stops t h fits; few = asked-nothing rules.own (Some 0) u }

  go-sound : (n : ℕ) (t : T) (h : H) → rules.Fits h t → (u : ℕ) (steps : List (Step A H)) → Plays rules (λ bs. go plan spent n t bs u) h steps → Sound rules (rules.Leaves t) (Some 0) h h u steps (λ bs. go plan spent n t bs u)
  go-sound zero t h fits u steps plays = go-stops t h fits u steps
  go-sound (suc n) t h fits zero steps plays = go-stops t h fits 0 steps
  go-sound (suc n) t h fits (suc u) steps plays =
      sound-few rules (rules.Leaves t) h (MayHaveAsked rules.own rules.own u) (MayHaveAsked rules.own (Some 0) (suc u)) h steps (λ bs. run (go plan spent n) (plan t) bs u) (run (go plan spent n) (plan t) (answers steps) u) (asked-entering rules.own u)
      (run-sound rules (go plan spent n) (go-sound n) (plan t) (rules.Leaves t) rules.own h h (keep.plans t h fits) u steps plays)

  -- each task that keeps the rules is sound, and has no question of its own beside those that its units pay
  pub task-sound : (t : T) (h : H) → rules.Fits h t → (u : ℕ) (steps : List (Step A H)) → Plays rules (λ bs. meaning plan spent t bs u) h steps → Sound rules (rules.Leaves t) (Some 0) h h u steps (λ bs. meaning plan spent t bs u)
  unfolding meaning
  task-sound t h fits u steps plays = go-sound u t h fits u steps plays

  -- where the tasks keep the rules, each plan that keeps them is sound
  pub sound : (p : Plan T R Q A F) (left : H → R → Type 0) (n : Option ℕ) (first h : H) → Safe rules left n first h p → (u : ℕ) (steps : List (Step A H)) → Plays rules (λ bs. run (meaning plan spent) p bs u) h steps → Sound rules left n first h u steps (λ bs. run (meaning plan spent) p bs u)
  sound = run-sound rules (meaning plan spent) task-sound

pub steps-are-sound : {T R Q A F H : Type 0} (rules : Rules T R Q A F H) (left : H → R → Type 0) → StepsAreSound rules left
steps-are-sound rules left plan spent keep n p = sound rules plan spent keep p left n
