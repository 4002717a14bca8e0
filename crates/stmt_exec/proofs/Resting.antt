-- Where a thread at rest stands.
use Rattle.std.proofs.Common.{◌≡◌, ℕ, [], ◌∷◌, List, Result, Ok, Err, IfOk, refl, ap, sym, ◌∙◌}
use Rattle.run_journal.specs.declared.answer.Answer.{Answer}
use Rattle.run_journal.specs.declared.question.Question.TheVariants.{Fail}
use Rattle.abstract_syntax.specs.Values.{ValueTree}
use Rattle.plans.specs.Plans.{ask, needs}
use Rattle.vdm_kinds.specs.declared.halt.OutOfMemory.{OutOfMemory}
use Rattle.vdm_kinds.specs.declared.place.Place.{Place}
use Rattle.vdm_kinds.specs.declared.run_fault.RunFault.{RunFault}
use Rattle.vdm_kinds.specs.declared.run_fault.RunFault.TheVariants.{UncaughtExit}
use Rattle.vdm_values.specs.declared.slot.Slot.TheVariants.{Unset, Held}
use Rattle.node_meaning.specs.Faults.{fault_at}
use Rattle.node_meaning.specs.Tasks.{Code}
use Rattle.vdm_meaning.specs.Main.{asks, over, standing_of, uncaught}
use Rattle.spec_table.specs.Tables.{table_spec}
use Rattle.step_data.specs.declared.action.Action.{Action}
use Rattle.step_data.specs.declared.asking.Asking.{Asking}
use Rattle.step_data.specs.declared.asking.Asking.TheVariants.{Class, Request, Activation, Before, Finish, Read, Write, WriteTogether, Old, New, Print, Time, End as Ending}
use Rattle.step_data.specs.Actions.{action_code, query_of, question_of, answered_of}
use Rattle.step_data.specs.Declarations.{surrounded}
use Rattle.thread_stack.specs.declared.stack.Stack.{Stack}
use Rattle.thread_stack.specs.Standing.{stands, stands_with}
use Rattle.thread_stack.proofs.Standings.{asking-asks, failing-asks, failed-over}
use Rattle.thread_stack.proofs.Surroundings.{round-ask}
use Rattle.stmt_exec.specs.declared.rest.Rest.{Rest}
use Rattle.stmt_exec.specs.declared.rest.Rest.TheVariants.{Asks, Fails, Exits, Over, Spent}
use Rattle.stmt_exec.specs.Resting.{rest_at}

-- the question of a query
query-asks : (names : List (List ℕ)) (asking : Asking) → standing_of names (needs (query_of asking)) ≡ asks (question_of names asking)
query-asks names (Class making) = refl
query-asks names (Request call) = refl
query-asks names (Activation call) = refl
query-asks names (Before call old next) = refl
query-asks names (Finish me op flow) = refl
query-asks names (Read me var) = refl
query-asks names (Write me var v place) = refl
query-asks names (WriteTogether me pairs place) = refl
query-asks names (Old assigning me var) = refl
query-asks names (New creating slots) = refl
query-asks names (Print vs) = refl
query-asks names (Time place) = refl
query-asks names (Ending slot) = refl

-- a question stands first, whatever stands round it
asks-at : (names : List (List ℕ)) (s : Stack) (asking : Asking) (answers : List Answer)
    → rest_at names s (Asks asking) answers
    ≡ standing_of names
    (stands (table_spec s.table.now) s.levels.items s.fuel
    (ask (query_of asking) (λ answer. surrounded s.around (answered_of (table_spec s.table.now) s.locals.items asking answer))) answers)
asks-at names s asking answers =
    ap (λ code. standing_of names (stands (table_spec s.table.now) s.levels.items s.fuel code answers))
    (round-ask s.around (query_of asking) (answered_of (table_spec s.table.now) s.locals.items asking))

asks-first : (names : List (List ℕ)) (s : Stack) (asking : Asking) → rest_at names s (Asks asking) [] ≡ asks (question_of names asking)
asks-first names s asking =
    asks-at names s asking []
    ∙ ap (standing_of names)
    (asking-asks (table_spec s.table.now) s.levels.items s.fuel (query_of asking)
    (λ answer. surrounded s.around (answered_of (table_spec s.table.now) s.locals.items asking answer)))
    ∙ query-asks names asking

-- what a thread at rest asks
pub at_rest-asks : (names : List (List ℕ)) (s : Stack) (r : Rest) (asking : Asking) → r ≡ Asks asking → rest_at names s r [] ≡ asks (question_of names asking)
at_rest-asks names s r asking e = ap (λ r. rest_at names s r []) e ∙ asks-first names s asking

pub at_rest-fails : (names : List (List ℕ)) (s : Stack) (r : Rest) (kind : RunFault) (place : Place) → r ≡ Fails kind place → rest_at names s r [] ≡ asks (Fail kind Unset place)
at_rest-fails names s r kind place e =
    ap (λ r. rest_at names s r []) e ∙ ap (standing_of names) (failing-asks (table_spec s.table.now) s.levels.items s.fuel (fault_at kind place))

pub at_rest-exits : (names : List (List ℕ)) (s : Stack) (r : Rest) (v : ValueTree) (place : Place) → r ≡ Exits v place → rest_at names s r [] ≡ asks (Fail UncaughtExit (Held v) place)
at_rest-exits names s r v place e =
    ap (λ r. rest_at names s r []) e ∙ ap (standing_of names) (failing-asks (table_spec s.table.now) s.levels.items s.fuel (uncaught v place))

-- only a thread that is over is over
pub rest-over : (names : List (List ℕ)) (s : Stack) (r : Rest) → rest_at names s r [] ≡ over → r ≡ Over
rest-over names s (Asks asking) e = absurd (cc (e, asks-first names s asking))
rest-over names s (Fails kind place) e = absurd (cc (e, ap (standing_of names) (failing-asks (table_spec s.table.now) s.levels.items s.fuel (fault_at kind place))))
rest-over names s (Exits v place) e = absurd (cc (e, ap (standing_of names) (failing-asks (table_spec s.table.now) s.levels.items s.fuel (uncaught v place))))
rest-over names s Over e = refl
rest-over names s Spent e = absurd (cc e)

-- behind the answer to its failure it is over
pub failed : (names : List (List ℕ)) (s : Stack) (r : Rest) (kind : RunFault) (place : Place) (answer : Answer) (answers : List Answer)
    → r ≡ Fails kind place → over ≡ rest_at names s r (answer ∷ answers)
failed names s r kind place answer answers e =
    rw e (sym (ap (standing_of names) (failed-over (table_spec s.table.now) s.levels.items s.fuel (fault_at kind place) answer answers)))

pub exit_failed : (names : List (List ℕ)) (s : Stack) (r : Rest) (v : ValueTree) (place : Place) (answer : Answer) (answers : List Answer)
    → r ≡ Exits v place → over ≡ rest_at names s r (answer ∷ answers)
exit_failed names s r v place answer answers e =
    rw e (sym (ap (standing_of names) (failed-over (table_spec s.table.now) s.levels.items s.fuel (uncaught v place) answer answers)))

-- behind the answer to a question stands what is done with it
pub answered : (names : List (List ℕ)) (s : Stack) (r : Rest) (asking : Asking) (answer : Answer) (answers : List Answer)
    → r ≡ Asks asking
    → standing_of names (stands (table_spec s.table.now) s.levels.items s.fuel (surrounded s.around (answered_of (table_spec s.table.now) s.locals.items asking answer)) answers)
    ≡ rest_at names s r (answer ∷ answers)
answered names s r asking answer answers e = rw e (sym (asks-at names s asking (answer ∷ answers)))

-- ... and where that is told by an action, among the locals behind it, the thread rests where it rested before
pub goes_on : (r : Result Rest OutOfMemory) (s mid now : Stack) (rest : Rest) (asking : Asking) (answer : Answer) (action : Action)
    → rest ≡ Asks asking → mid.table ≡ s.table → mid.levels.items ≡ s.levels.items → mid.fuel ≡ s.fuel → mid.around ≡ s.around
    → action_code (table_spec s.table.now) mid.locals.items action ≡ answered_of (table_spec s.table.now) s.locals.items asking answer
    → IfOk r (λ x. (names : List (List ℕ)) (answers : List Answer) → rest_at names now x answers ≡ standing_of names (stands_with mid action answers))
    → IfOk r (λ x. (names : List (List ℕ)) (answers : List Answer) → rest_at names now x answers ≡ rest_at names s rest (answer ∷ answers))
goes_on (Ok x) s mid now rest asking answer action is t l f a told h = λ names answers.
    h names answers
    ∙ (λ i. standing_of names (stands (table_spec (t i).now) (l i) (f i) (surrounded (a i) (action_code (table_spec (t i).now) mid.locals.items action)) answers))
    ∙ ap (λ (c : Code). standing_of names (stands (table_spec s.table.now) s.levels.items s.fuel (surrounded s.around c) answers)) told
    ∙ answered names s rest asking answer answers is
goes_on (Err e) s mid now rest asking answer action is t l f a told h = tt
