-- Where a thread stands under what waits in it.
use Rattle.std.proofs.Common.{◌≡◌, ℕ, suc, List, [], ◌∷◌, ◌++◌, Result, Ok, Err, IfOk, refl, ap, sym, ◌∙◌}
use Rattle.run_journal.specs.declared.answer.Answer.{Answer}
use Rattle.abstract_syntax.specs.Classes.{SpecTree}
use Rattle.plans.specs.Plans.{Outcome, gives, faults, needs, onward, finish, fail, ask, part, become, bind, meaning}
use Rattle.plans.proofs.Binding.{run-bind}
use Rattle.plans.proofs.Levels.{meaning-suc, meaning-zero}
use Rattle.vdm_kinds.specs.declared.halt.OutOfMemory.{OutOfMemory}
use Rattle.node_meaning.specs.Envs.{Locals, Here as MeantHere, at}
use Rattle.node_meaning.specs.Expressions.{expr_plan}
use Rattle.node_meaning.specs.Faults.{Fault}
use Rattle.node_meaning.specs.Matching.{on_truth}
use Rattle.node_meaning.specs.Tasks.{Declared, Task, round_in, Round as MeantRound, while_true, counts, handles, Flow, Query, Code, placed, spent, task_among, among, with_value}
use Rattle.stmt_meaning.specs.Calls.{back, begun as begun_plan}
use Rattle.stmt_meaning.specs.Handlers.{caught}
use Rattle.stmt_meaning.specs.Loops.{while_decided, counted}
use Rattle.stmt_meaning.specs.Questions.{of_thread}
use Rattle.stmt_meaning.specs.Statements.{stmt_plan}
use Rattle.stmt_meaning.specs.TaskPlans.{plan_of}
use Rattle.eval_data.specs.declared.frame.Frame.{Frame}
use Rattle.eval_data.specs.declared.frame.Frame.TheVariants.{Cut}
use Rattle.eval_data.specs.declared.here.Here.{Here}
use Rattle.eval_data.specs.declared.test_part.TestPart.{TestPart}
use Rattle.eval_data.specs.Parts.{here_of, nest_of}
use Rattle.step_data.specs.declared.action.Action.{Action}
use Rattle.step_data.specs.declared.around.Around.{Around}
use Rattle.step_data.specs.declared.calling.Calling.{Calling}
use Rattle.step_data.specs.declared.fit_part.FitPart.{FitPart}
use Rattle.step_data.specs.declared.level.Level.{Level}
use Rattle.step_data.specs.declared.pending.Pending.{Pending}
use Rattle.step_data.specs.declared.round.Round.{Round}
use Rattle.step_data.specs.declared.waiting.Waiting.TheVariants.{Expr, Round as BehindFirst, End}
use Rattle.step_data.specs.Actions.{waiting_then, level_then, action_code, nested, round_done}
use Rattle.step_data.specs.Callings.{calling_of, olds_of, read_from}
use Rattle.step_data.specs.Declarations.{declared_of, surrounded}
use Rattle.step_data.specs.Parts.{first_task, round_of}
use Rattle.thread_stack.specs.declared.stack.Stack.{Stack}
use Rattle.thread_stack.specs.Standing.{comes_to, unwind, stands, stands_with}
use Rattle.thread_stack.proofs.Surroundings.{placed-bind, among-bind, among-among, round-part, round-become, round-bind}

module _ (spec : SpecTree) where
  unwind-needs : (levels : List Level) (q : Query) → unwind spec levels (needs q) ≡ needs q
  unwind-needs [] q = refl
  unwind-needs (level ∷ levels) q = ap (λ o. onward o (λ r. comes_to spec (level_then spec level r))) (unwind-needs levels q)

  unwind-faults : (levels : List Level) (f : Fault) (answers : List Answer) → unwind spec levels (faults f answers) ≡ faults f answers
  unwind-faults [] f answers = refl
  unwind-faults (level ∷ levels) f answers = ap (λ o. onward o (λ r. comes_to spec (level_then spec level r))) (unwind-faults levels f answers)

  -- the innermost stands last
  unwind-push : (levels : List Level) (level : Level) (o : Outcome Flow Query Answer Fault)
      → unwind spec (levels ++ level ∷ []) o ≡ unwind spec levels (onward o (λ r. comes_to spec (level_then spec level r)))
  unwind-push [] level o = refl
  unwind-push (first ∷ levels) level o = ap (λ o. onward o (λ r. comes_to spec (level_then spec first r))) (unwind-push levels level o)

  -- a question is asked whatever waits
  pub asking-asks : (levels : List Level) (fuel : ℕ) (q : Query) (next : Answer → Code) → stands spec levels fuel (ask q next) [] ≡ needs q
  asking-asks levels fuel q next = unwind-needs levels q

  -- so is a fault, also behind the answer to that
  pub failing-asks : (levels : List Level) (fuel : ℕ) (f : Fault) → stands spec levels fuel (fail f) [] ≡ faults f []
  failing-asks levels fuel f = unwind-faults levels f []

  pub failed-over : (levels : List Level) (fuel : ℕ) (f : Fault) (answer : Answer) (answers : List Answer) → stands spec levels fuel (fail f) (answer ∷ answers) ≡ faults f (answer ∷ answers)
  failed-over levels fuel f answer answers = unwind-faults levels f (answer ∷ answers)

  -- a result goes to what waits innermost
  pub finish-goes_on : (levels : List Level) (fuel : ℕ) (level : Level) (flow : Flow) (answers : List Answer)
      → stands spec levels fuel (level_then spec level flow) answers ≡ stands spec (levels ++ level ∷ []) fuel (finish flow) answers
  finish-goes_on levels fuel level flow answers = sym (unwind-push levels level (gives flow answers fuel))

  -- a part is entered with its unit, where what follows it waits
  pub part-enters : (levels : List Level) (fuel : ℕ) (level : Level) (task : Task) (answers : List Answer)
      → stands spec (levels ++ level ∷ []) fuel (plan_of (of_thread spec) task) answers ≡ stands spec levels (suc fuel) (part task (level_then spec level)) answers
  part-enters levels fuel level task answers =
      unwind-push levels level (comes_to spec (plan_of (of_thread spec) task) answers fuel)
      ∙ ap (λ o. unwind spec levels (onward o (λ r. comes_to spec (level_then spec level r)))) (sym (meaning-suc (plan_of (of_thread spec)) spent task answers fuel))

  -- one in the stead of a node
  pub become-enters : (levels : List Level) (fuel : ℕ) (task : Task) (answers : List Answer)
      → stands spec levels fuel (plan_of (of_thread spec) task) answers ≡ stands spec levels (suc fuel) (become task) answers
  become-enters levels fuel task answers =
      ap (λ o. unwind spec levels o) (sym (meaning-suc (plan_of (of_thread spec)) spent task answers fuel))

  -- without a unit they fail
  pub part-spent : (levels : List Level) (next : Flow → Code) (task : Task) (answers : List Answer)
      → stands spec levels 0 (fail (spent task)) answers ≡ stands spec levels 0 (part task next) answers
  part-spent levels next task answers =
      ap (λ o. unwind spec levels (onward o (λ r. comes_to spec (next r)))) (sym (meaning-zero (plan_of (of_thread spec)) spent task answers))

  pub become-spent : (levels : List Level) (task : Task) (answers : List Answer)
      → stands spec levels 0 (fail (spent task)) answers ≡ stands spec levels 0 (become task) answers
  become-spent levels task answers =
      ap (λ o. unwind spec levels o) (sym (meaning-zero (plan_of (of_thread spec)) spent task answers))

  -- a plan with another on its result is followed where the other waits
  pub bind-waits : (levels : List Level) (fuel : ℕ) (level : Level) (code : Code) (answers : List Answer)
      → stands spec (levels ++ level ∷ []) fuel code answers ≡ stands spec levels fuel (bind code (level_then spec level)) answers
  bind-waits levels fuel level code answers =
      unwind-push levels level (comes_to spec code answers fuel)
      ∙ ap (unwind spec levels) (sym (run-bind (meaning (plan_of (of_thread spec)) spent) code (level_then spec level) answers fuel))

-- ---- steps

-- what a step came to
abbrev pub Comes : SpecTree → List Level → Around → Locals → ℕ → Code → List Level → ℕ → Result Action OutOfMemory → Type 0
Comes spec now around locals left code levels fuel r =
    IfOk r (λ a. (answers : List Answer) → stands spec now left (surrounded around (action_code spec locals a)) answers ≡ stands spec levels fuel code answers)

-- a part whose action is known, where what follows it waits
pub entered : (spec : SpecTree) (levels now : List Level) (around outer : Around) (after : Locals) (fuel left : ℕ) (level : Level) (task : Task) (r : Result Action OutOfMemory)
    → fuel ≡ suc left → now ≡ levels ++ level ∷ [] → surrounded level.around ≡ surrounded outer
    → IfOk r (λ a. surrounded around (action_code spec after a) ≡ plan_of (of_thread spec) (task_among (declared_of outer.declared) task))
    → Comes spec now around after left (surrounded outer (part task (waiting_then spec level.waiting.waiting))) levels fuel r
entered spec levels now around outer after fuel left level task (Ok a) e n same h = λ answers.
    rw (e, n, h) (part-enters spec levels left level (task_among (declared_of outer.declared) task) answers
    ∙ ap (λ (s : Code → Code). stands spec levels (suc left) (part (task_among (declared_of outer.declared) task) (λ flow. s (waiting_then spec level.waiting.waiting flow))) answers) same
    ∙ ap (λ c. stands spec levels (suc left) c answers) (sym (round-part outer task (waiting_then spec level.waiting.waiting))))
entered spec levels now around outer after fuel left level task (Err x) e n same h = tt

pub begun : (spec : SpecTree) (levels : List Level) (around outer : Around) (after : Locals) (fuel left : ℕ) (task : Task) (r : Result Action OutOfMemory)
    → fuel ≡ suc left
    → IfOk r (λ a. surrounded around (action_code spec after a) ≡ plan_of (of_thread spec) (task_among (declared_of outer.declared) task))
    → Comes spec levels around after left (surrounded outer (become task)) levels fuel r
begun spec levels around outer after fuel left task (Ok a) e h = λ answers.
    rw (e, h) (become-enters spec levels left (task_among (declared_of outer.declared) task) answers
    ∙ ap (λ c. stands spec levels (suc left) c answers) (sym (round-become outer task)))
begun spec levels around outer after fuel left task (Err x) e h = tt

-- a part of the test of a value, behind which two levels wait
pub tests : (spec : SpecTree) (levels one now : List Level) (around outer : Around) (after : Locals) (fuel left : ℕ) (first second : Level) (task : Task) (r : Result Action OutOfMemory)
    → fuel ≡ suc left → one ≡ levels ++ first ∷ [] → now ≡ one ++ second ∷ [] → surrounded first.around ≡ surrounded outer → surrounded second.around ≡ surrounded outer
    → IfOk r (λ a. surrounded around (action_code spec after a) ≡ plan_of (of_thread spec) (task_among (declared_of outer.declared) task))
    → Comes spec now around after left (surrounded outer (bind (part task (waiting_then spec second.waiting.waiting)) (waiting_then spec first.waiting.waiting))) levels fuel r
tests spec levels one now around outer after fuel left first second task (Ok a) e o n f s h = λ answers.
    let among_these = task_among (declared_of outer.declared) task in
    rw (e, n, o, h) (part-enters spec (levels ++ first ∷ []) left second among_these answers
    ∙ bind-waits spec levels (suc left) first (part among_these (level_then spec second)) answers
    ∙ ap (λ (t : Code → Code). stands spec levels (suc left) (bind (part among_these (λ flow. t (waiting_then spec second.waiting.waiting flow))) (level_then spec first)) answers) s
    ∙ ap (λ (t : Code → Code). stands spec levels (suc left) (bind (part among_these (λ flow. surrounded outer (waiting_then spec second.waiting.waiting flow))) (λ flow. t (waiting_then spec first.waiting.waiting flow))) answers) f
    ∙ ap (λ c. stands spec levels (suc left) (bind c (λ flow. surrounded outer (waiting_then spec first.waiting.waiting flow))) answers) (sym (round-part outer task (waiting_then spec second.waiting.waiting)))
    ∙ ap (λ c. stands spec levels (suc left) c answers) (sym (round-bind outer (part task (waiting_then spec second.waiting.waiting)) (waiting_then spec first.waiting.waiting))))
tests spec levels one now around outer after fuel left first second task (Err x) e o n f s h = tt

-- a part of a test, taken out of its box
pub test_so : (spec : SpecTree) (locals : Locals) (test one two : TestPart) (inner outer : Frame) → inner ≡ test.inner → one ≡ record test { inner = Cut 0 }
    → outer ≡ one.outer → two ≡ record one { outer = Cut 0 }
    → nested spec locals two.here two.tree inner (Expr outer) ≡ nested spec locals test.here test.tree test.inner (Expr test.outer)
test_so spec locals test one two inner outer i a o b = rw (b, o, a, i) refl

pub fit_so : (spec : SpecTree) (locals : Locals) (fit one two : FitPart) (inner : Frame) (outer : Pending) → inner ≡ fit.inner → one ≡ record fit { inner = Cut 0 }
    → outer ≡ one.outer → two ≡ record one { outer = record { waiting = End } }
    → nested spec locals two.here two.tree inner outer.waiting ≡ nested spec locals fit.here fit.tree fit.inner fit.outer.waiting
fit_so spec locals fit one two inner outer i a o b = rw (b, o, a, i) refl

-- ... where the code is known that a part of it stands for
pub for_code : (now : Stack) (spec : SpecTree) (levels : List Level) (fuel : ℕ) (around : Around) (r : Result Action OutOfMemory) (one two : Code)
    → IfOk r (λ a. (answers : List Answer) → stands_with now a answers ≡ stands spec levels fuel (surrounded around one) answers) → one ≡ two
    → IfOk r (λ a. (answers : List Answer) → stands_with now a answers ≡ stands spec levels fuel (surrounded around two) answers)
for_code now spec levels fuel around (Ok a) one two h e = λ answers. h answers ∙ ap (λ (c : Code). stands spec levels fuel (surrounded around c) answers) e
for_code now spec levels fuel around (Err x) one two h e = tt

-- a round of a loop: the node with which it begins, and what waits behind that
round-is : (spec : SpecTree) (here : MeantHere) (outer : Declared) (locals : Locals) (round : MeantRound)
    → bind (plan_of (of_thread spec) (task_among outer (first_task here locals round))) (λ flow. placed here.nest (among outer (round_done spec here round flow)))
    ≡ plan_of (of_thread spec) (task_among outer (round_in (at here locals) [] round))
round-is spec here outer locals (while_true condition body place) =
    sym (placed-bind here.nest (expr_plan (of_thread spec) here locals condition)
    (λ flow. among outer (with_value place (on_truth place (while_decided here condition body place)) flow)))
round-is spec here outer locals (counts counting) =
    sym (placed-bind here.nest (among outer (stmt_plan spec here outer locals counting.body)) (λ flow. among outer (counted here counting flow)))
    ∙ ap (placed here.nest) (sym (among-bind outer (stmt_plan spec here outer locals counting.body) (counted here counting)))
round-is spec here outer locals (handles all count body place) =
    sym (placed-bind here.nest (among outer (stmt_plan spec here outer locals body)) (λ flow. among outer (caught spec here place all count flow)))
    ∙ ap (placed here.nest) (sym (among-bind outer (stmt_plan spec here outer locals body) (caught spec here place all count)))

round_spent : (here : MeantHere) (outer : Declared) (locals : Locals) (round : MeantRound)
    → spent (task_among outer (first_task here locals round)) ≡ spent (task_among outer (round_in (at here locals) [] round))
round_spent here outer locals (while_true condition body place) = refl
round_spent here outer locals (counts counting) = refl
round_spent here outer locals (handles all count body place) = refl

pub rounded : (spec : SpecTree) (levels now : List Level) (around outer : Around) (after : Locals) (fuel left : ℕ) (here : Here) (locals : Locals) (round : Round) (level : Level) (task : Task) (r : Result Action OutOfMemory)
    → fuel ≡ suc left → now ≡ levels ++ level ∷ [] → level.waiting.waiting ≡ BehindFirst here round → nest_of level.around.nest ≡ nest_of here.nest
    → declared_of level.around.declared ≡ declared_of outer.declared
    → task ≡ first_task (here_of here) locals (round_of round)
    → IfOk r (λ a. surrounded around (action_code spec after a) ≡ plan_of (of_thread spec) (task_among (declared_of outer.declared) task))
    → Comes spec now around after left (surrounded outer (become (round_in (at (here_of here) locals) [] (round_of round)))) levels fuel r
rounded spec levels now around outer after fuel left here locals round level task (Ok a) e n w l d t h = λ answers.
    let these = declared_of outer.declared in
    let first = first_task (here_of here) locals (round_of round) in
    rw (e, n, h, t) (bind-waits spec levels left level (plan_of (of_thread spec) (task_among these first)) answers
    ∙ (λ i. stands spec levels left (bind (plan_of (of_thread spec) (task_among these first)) (λ flow. placed (l i) (among (d i) (waiting_then spec (w i) flow)))) answers)
    ∙ ap (λ c. stands spec levels left c answers) (round-is spec (here_of here) these locals (round_of round))
    ∙ become-enters spec levels left (task_among these (round_in (at (here_of here) locals) [] (round_of round))) answers
    ∙ ap (λ c. stands spec levels (suc left) c answers) (sym (round-become outer (round_in (at (here_of here) locals) [] (round_of round)))))
rounded spec levels now around outer after fuel left here locals round level task (Err x) e n w l d t h = tt

pub round_fails : (spec : SpecTree) (levels : List Level) (outer : Around) (fuel : ℕ) (here : Here) (locals : Locals) (round : Round) (task : Task) (code : Code) (answers : List Answer)
    → fuel ≡ 0 → task ≡ first_task (here_of here) locals (round_of round) → code ≡ fail (spent (task_among (declared_of outer.declared) task))
    → stands spec levels fuel code answers ≡ stands spec levels fuel (surrounded outer (become (round_in (at (here_of here) locals) [] (round_of round)))) answers
round_fails spec levels outer fuel here locals round task code answers e t is =
    let these = declared_of outer.declared in
    let whole = round_in (at (here_of here) locals) [] (round_of round) in
    rw (e, is, t, round_spent (here_of here) these locals (round_of round)) (become-spent spec levels (task_among these whole) answers
    ∙ ap (λ c. stands spec levels 0 c answers) (sym (round-become outer whole)))

-- one that finds no unit
pub spent_fails : (spec : SpecTree) (levels : List Level) (outer : Around) (fuel : ℕ) (task : Task) (next : Flow → Code) (code : Code) (answers : List Answer)
    → fuel ≡ 0 → code ≡ fail (spent (task_among (declared_of outer.declared) task))
    → stands spec levels fuel code answers ≡ stands spec levels fuel (surrounded outer (part task next)) answers
spent_fails spec levels outer fuel task next code answers e is =
    rw (e, is) (part-spent spec levels (λ flow. surrounded outer (next flow)) (task_among (declared_of outer.declared) task) answers
    ∙ ap (λ c. stands spec levels 0 c answers) (sym (round-part outer task next)))

pub spent_tests : (spec : SpecTree) (levels : List Level) (outer : Around) (fuel : ℕ) (task : Task) (one two : Flow → Code) (code : Code) (answers : List Answer)
    → fuel ≡ 0 → code ≡ fail (spent (task_among (declared_of outer.declared) task))
    → stands spec levels fuel code answers ≡ stands spec levels fuel (surrounded outer (bind (part task one) two)) answers
spent_tests spec levels outer fuel task one two code answers e is = spent_fails spec levels outer fuel task (λ flow. bind (one flow) two) code answers e is

pub spent_becomes : (spec : SpecTree) (levels : List Level) (outer : Around) (fuel : ℕ) (task : Task) (code : Code) (answers : List Answer)
    → fuel ≡ 0 → code ≡ fail (spent (task_among (declared_of outer.declared) task))
    → stands spec levels fuel code answers ≡ stands spec levels fuel (surrounded outer (become task)) answers
spent_becomes spec levels outer fuel task code answers e is =
    rw (e, is) (become-spent spec levels (task_among (declared_of outer.declared) task) answers
    ∙ ap (λ c. stands spec levels 0 c answers) (sym (round-become outer task)))

-- a need, behind which the node waits
pub needing : (spec : SpecTree) (levels now : List Level) (outer : Around) (after : Locals) (fuel : ℕ) (level : Level) (code : Code) (r : Result Action OutOfMemory)
    → now ≡ levels ++ level ∷ [] → surrounded level.around ≡ surrounded outer
    → IfOk r (λ a. action_code spec after a ≡ code)
    → Comes spec now outer after fuel (surrounded outer (bind code (waiting_then spec level.waiting.waiting))) levels fuel r
needing spec levels now outer after fuel level code (Ok a) n same h = λ answers.
    rw (n, h) (bind-waits spec levels fuel level (surrounded outer code) answers
    ∙ ap (λ (s : Code → Code). stands spec levels fuel (bind (surrounded outer code) (λ flow. s (waiting_then spec level.waiting.waiting flow))) answers) same
    ∙ ap (λ c. stands spec levels fuel c answers) (sym (round-bind outer code (waiting_then spec level.waiting.waiting))))
needing spec levels now outer after fuel level code (Err x) n same h = tt

-- a call that begins, behind which the locals wait that are put aside
pub calling : (spec : SpecTree) (levels now : List Level) (outer : Around) (after before locals saved : Locals) (fuel : ℕ) (level : Level) (call : Calling) (r : Result Action OutOfMemory)
    → now ≡ levels ++ level ∷ [] → surrounded level.around ≡ surrounded outer → waiting_then spec level.waiting.waiting ≡ back saved → saved ≡ locals → before ≡ []
    → IfOk r (λ a. action_code spec after a ≡ read_from spec call 0 before)
    → Comes spec now outer after fuel (surrounded outer (begun_plan spec (calling_of call) (olds_of call) locals)) levels fuel r
calling spec levels now outer after before locals saved fuel level call (Ok a) n same w s b h = λ answers.
    needing spec levels now outer after fuel level (read_from spec call 0 []) (Ok a) n same (h ∙ ap (λ (l : Locals). read_from spec call 0 l) b) answers
    ∙ ap (λ (next : Flow → Code). stands spec levels fuel (surrounded outer (bind (read_from spec call 0 []) next)) answers) (w ∙ ap back s)
calling spec levels now outer after before locals saved fuel level call (Err x) n same w s b h = tt

-- a block begins among its local variables
pub blocked : (around outer : Around) (own : Declared) (code : Code) → nest_of around.nest ≡ nest_of outer.nest
    → declared_of around.declared ≡ declared_of outer.declared ++ own → surrounded around code ≡ surrounded outer (among own code)
blocked around outer own code n d =
    (λ i. placed (n i) (among (d i) code)) ∙ ap (placed (nest_of outer.nest)) (sym (among-among (declared_of outer.declared) own code))

-- where an action's code is known
pub with_code : (spec : SpecTree) (levels : List Level) (fuel : ℕ) (one two : Code) (answers : List Answer) → one ≡ two → stands spec levels fuel one answers ≡ stands spec levels fuel two answers
with_code spec levels fuel one two answers e = ap (λ c. stands spec levels fuel c answers) e
