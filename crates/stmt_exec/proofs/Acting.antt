-- Each action of a thread stands where it stood.
use Rattle.std.proofs.Common.{◌≡◌, ℕ, List, [], ◌∷◌, ◌++◌, refl, ap, sym, ◌∙◌}
use Rattle.vdm_kinds.specs.declared.name.Name.{Name}
use Rattle.vdm_kinds.specs.declared.place.Place.{Place}
use Rattle.vdm_kinds.specs.declared.run_fault.RunFault.{RunFault}
use Rattle.abstract_syntax.specs.Classes.{SpecTree}
use Rattle.abstract_syntax.specs.Expressions.{ExprTree}
use Rattle.abstract_syntax.specs.Values.{ValueTree}
use Rattle.run_journal.specs.declared.answer.Answer.{Answer}
use Rattle.plans.specs.Plans.{finish, fail}
use Rattle.node_meaning.specs.Envs.{Locals, no_nest, outermost}
use Rattle.node_meaning.specs.Faults.{fault_at}
use Rattle.node_meaning.specs.Tasks.{Code, fault, placed, among}
use Rattle.vdm_meaning.specs.Main.{over, main_code, make_class_objects, standing_of, uncaught}
use Rattle.vdm_legal.specs.ClassObjects.{classes_of}
use Rattle.spec_table.specs.Tables.{table_spec}
use Rattle.eval_data.specs.declared.flow.Flow.{Flow}
use Rattle.eval_data.specs.Parts.{flow_of, nest_of}
use Rattle.step_data.specs.declared.action.Action.{Action}
use Rattle.step_data.specs.declared.action.Action.TheVariants.{Finish as Done, Fail, Uncaught}
use Rattle.step_data.specs.declared.around.Around.{Around}
use Rattle.step_data.specs.declared.level.Level.{Level}
use Rattle.step_data.specs.Actions.{level_then, action_code}
use Rattle.step_data.specs.Callings.{main_expression}
use Rattle.step_data.specs.Declarations.{declared_of, surrounded}
use Rattle.thread_stack.specs.declared.stack.Stack.{Stack}
use Rattle.thread_stack.specs.Standing.{stands, stands_with}
use Rattle.thread_stack.proofs.Standings.{finish-goes_on}
use Rattle.thread_stack.proofs.Surroundings.{placed-none, round-finish, round-fail}

-- where the action is known
pub stands-known : (s : Stack) (action known : Action) (answers : List Answer) → action ≡ known → stands_with s known answers ≡ stands_with s action answers
stands-known s action known answers is = rw is refl

-- a result for which nothing waits ends the thread
ends : (names : List (List ℕ)) (spec : SpecTree) (levels : List Level) (around : Around) (locals : Locals) (fuel : ℕ) (flow : Flow) (answers : List Answer)
    → levels ≡ [] → over ≡ standing_of names (stands spec levels fuel (surrounded around (finish (flow_of flow locals))) answers)
ends names spec levels around locals fuel flow answers none =
    rw none (ap (λ (code : Code). standing_of names (stands spec [] fuel code answers)) (sym (round-finish around (flow_of flow locals))))

pub stands-end : (names : List (List ℕ)) (s : Stack) (action : Action) (flow : Flow) (answers : List Answer) → action ≡ Done flow → s.levels.items ≡ [] → over ≡ standing_of names (stands_with s action answers)
stands-end names s action flow answers is none = rw is (ends names (table_spec s.table.now) s.levels.items s.around s.locals.items s.fuel flow answers none)

-- a result goes to what waits for it
pub popped : (spec : SpecTree) (levels left : List Level) (around : Around) (before : Locals) (fuel : ℕ) (level : Level) (flow : Flow) (action : Action) (code : Code) (answers : List Answer)
    → levels ≡ left ++ level ∷ [] → action ≡ Done flow → code ≡ level_then spec level (flow_of flow before)
    → stands spec left fuel code answers ≡ stands spec levels fuel (surrounded around (action_code spec before action)) answers
popped spec levels left around before fuel level flow action code answers e is h =
    rw (e, is, h) (finish-goes_on spec left fuel level (flow_of flow before) answers
    ∙ ap (λ (code : Code). stands spec (left ++ level ∷ []) fuel code answers) (sym (round-finish around (flow_of flow before))))

-- a fault stands where the outermost test of a type is made
pub stands-fault : (s : Stack) (action : Action) (kind : RunFault) (place at : Place) (answers : List Answer)
    → action ≡ Fail kind place → at ≡ outermost s.around.nest.test place
    → stands (table_spec s.table.now) s.levels.items s.fuel (fault kind at) answers ≡ stands_with s action answers
stands-fault s action kind place at answers is e =
    rw (is, e) (ap (λ (code : Code). stands (table_spec s.table.now) s.levels.items s.fuel code answers) (sym (round-fail s.around (fault_at kind place))))

pub stands-exit : (s : Stack) (action : Action) (v : ValueTree) (place at : Place) (answers : List Answer)
    → action ≡ Uncaught v place → at ≡ outermost s.around.nest.test place
    → stands (table_spec s.table.now) s.levels.items s.fuel (fail (uncaught v at)) answers ≡ stands_with s action answers
stands-exit s action v place at answers is e =
    rw (is, e) (ap (λ (code : Code). stands (table_spec s.table.now) s.levels.items s.fuel code answers) (sym (round-fail s.around (uncaught v place))))

-- where nothing waits and no name is bound, the class objects and the expression are main's plan
pub main-stands : (names : List (List ℕ)) (spec : SpecTree) (tree : ExprTree) (s : Stack) (units : ℕ) (classes : List Name) (action : Action) (answers : List Answer)
    → table_spec s.table.now ≡ spec → s.levels.items ≡ [] → nest_of s.around.nest ≡ no_nest → declared_of s.around.declared ≡ [] → s.fuel ≡ units
    → classes ≡ classes_of spec → action_code spec s.locals.items action ≡ make_class_objects spec 0 classes (main_expression tree)
    → standing_of names (stands_with s action answers) ≡ main_code names spec tree units answers
main-stands names spec tree s units classes action answers t l n d f all is =
    (λ i. standing_of names (stands (t i) (l i) (f i) (placed (n i) (among (d i) (action_code (t i) s.locals.items action))) answers))
    ∙ ap (λ (code : Code). standing_of names (stands spec [] units code answers))
    (placed-none (action_code spec s.locals.items action) ∙ is ∙ ap (λ (those : List Name). make_class_objects spec 0 those (main_expression tree)) all)
