-- Each task of a thread asks questions that entries answer; so a thread has no need as such.
use Rattle.std.proofs.Common.{◌∷◌, ◌++◌, ◌+◌, [], List, None, Option, Some, ℕ}
use Rattle.vdm_kinds.specs.declared.name.Name.{Name}
use Rattle.vdm_kinds.specs.declared.member.VarRef.{VarRef}
use Rattle.vdm_kinds.specs.declared.place.Place.{Place}
use Rattle.vdm_values.specs.declared.slot.Slot.{Slot}
use Rattle.vdm_values.specs.declared.slot.Slot.TheVariants.{Unset, Held}
use Rattle.abstract_syntax.specs.Expressions.{ExprTree, apply, expr_place}
use Rattle.abstract_syntax.specs.Types.{TypeTree}
use Rattle.abstract_syntax.specs.Values.{ValueTree}
use Rattle.abstract_syntax.specs.Classes.{SpecTree, VariableTree}
use Rattle.run_journal.specs.declared.answer.Answer.{Answer}
use Rattle.run_journal.specs.declared.question.Question.TheVariants.{Class}
use Rattle.plans.specs.Plans.{ask, bind, part, run, meaning}
use Rattle.vdm_legal.specs.ClassObjects.{classes_of}
use Rattle.vdm_legal.specs.State.{class_variables}
use Rattle.node_meaning.specs.Wanted.{no_value}
use Rattle.node_meaning.specs.Envs.{Locals, Here, no_nest}
use Rattle.node_meaning.specs.Fitting.{fitted}
use Rattle.node_meaning.specs.Names.{variable_definition}
use Rattle.stmt_meaning.specs.Objects.{initial_of}
use Rattle.node_meaning.specs.Expressions.{expr_plan}
use Rattle.node_meaning.specs.Matching.{on_truth}
use Rattle.stmt_meaning.specs.Handlers.{caught}
use Rattle.stmt_meaning.specs.Loops.{while_decided, counted}
use Rattle.stmt_meaning.specs.Statements.{stmt_plan}
use Rattle.node_meaning.specs.Expressions.{bare_call}
use Rattle.stmt_meaning.specs.TaskPlans.{node_plan, plan_of, round_plan}
use Rattle.node_meaning.specs.Tasks.{among, Declared, Task, expr_in, call_in, stmt_in, round_in, Round, while_true, counts, handles, Code, Flow, gave, next, noted, returned, exited, env_of, spent, with_value}
use Rattle.vdm_meaning.specs.Main.{came, ended, make_class_objects, main_plan, object_of_class, static_slot, static_slots, static_tested, static_typed, statics_typed, whole_expression}
use Rattle.stmt_meaning.specs.Questions.{of_thread}
use Rattle.noted_laws.proofs.OnlyAsked.{NeedsOnly, bind-asks, needs-only}
use Rattle.noted_laws.proofs.Noting.{IsNoted, Notes, notes-among, notes-fitted, notes-on_truth, notes-placed, notes-with_value}
use Rattle.noted_laws.proofs.NotedNodes.{notes-application, notes-expr}
use Rattle.noted_laws.proofs.NotedFlows.{notes-caught}
use Rattle.noted_laws.proofs.NotedLoops.{notes-counted, notes-while_decided}
use Rattle.noted_laws.proofs.NotedStatements.{notes-statement}

module _ (spec : SpecTree) where
  notes-bare_call : (here : Here) (locals : Locals) (tree : ExprTree) → Notes (bare_call (of_thread spec) here locals tree)
  notes-bare_call here locals (apply head arguments place) = notes-application spec here place no_value head arguments locals
  notes-bare_call here locals tree = tt

  notes-round : (here : Here) (declared : Declared) (locals : Locals) (round : Round) → Notes (round_plan (of_thread spec) here declared locals round)
  notes-round here declared locals (while_true condition body place) =
      let further = on_truth place (while_decided here condition body place) in
      bind-asks IsNoted (expr_plan (of_thread spec) here locals condition) (λ flow. among declared (with_value place further flow))
      (notes-expr spec here locals condition)
      (λ flow.
      notes-among declared (with_value place further flow)
      (notes-with_value place further (notes-on_truth place (while_decided here condition body place) (notes-while_decided here condition body place)) flow))
  notes-round here declared locals (counts counting) =
      notes-among declared (bind (stmt_plan spec here declared locals counting.body) (counted here counting))
      (bind-asks IsNoted (stmt_plan spec here declared locals counting.body) (counted here counting)
      (notes-statement spec here declared locals counting.body) (notes-counted here counting))
  notes-round here declared locals (handles all count body place) =
      notes-among declared (bind (stmt_plan spec here declared locals body) (caught spec here place all count))
      (bind-asks IsNoted (stmt_plan spec here declared locals body) (caught spec here place all count)
      (notes-statement spec here declared locals body) (notes-caught spec here place all count))

  notes-node : (task : Task) → Notes (node_plan (of_thread spec) task)
  notes-node (expr_in env tree) = notes-expr spec env.here env.locals tree
  notes-node (call_in env tree) = notes-bare_call env.here env.locals tree
  notes-node (stmt_in env declared statement) =
      notes-among declared (stmt_plan spec env.here declared env.locals statement) (notes-statement spec env.here declared env.locals statement)
  notes-node (round_in env declared round) = notes-round env.here declared env.locals round

  notes-task : (task : Task) → Notes (plan_of (of_thread spec) task)
  notes-task task = notes-placed (env_of task).here.nest (node_plan (of_thread spec) task) (notes-node task)

  notes-ended : (flow : Flow) → Notes (ended flow)
  notes-ended (gave slot locals) = (tt, λ a. tt)
  notes-ended (next locals) = (tt, λ a. tt)
  notes-ended (returned slot locals) = (tt, λ a. tt)
  notes-ended (exited v place locals) = tt

  -- ---- class objects

  notes-came : (place : Place) (further : ValueTree → Code) → ((v : ValueTree) → Notes (further v)) → (flow : Flow) → Notes (came place further flow)
  notes-came place further h (gave (Held v) locals) = h v
  notes-came place further h (gave Unset locals) = tt
  notes-came place further h (next locals) = tt
  notes-came place further h (returned slot locals) = tt
  notes-came place further h (exited v from locals) = tt

  notes-static_slot : (class : Name) (initial : Option ExprTree) (further : List Slot → Code) → ((slots : List Slot) → Notes (further slots)) → (slots : List Slot) → Notes (static_slot class initial further slots)
  notes-static_slot class None further h slots = h (slots ++ Unset ∷ [])
  notes-static_slot class (Some initial) further h slots =
      notes-came (expr_place initial) (λ v. further (slots ++ Held v ∷ [])) (λ v. h (slots ++ Held v ∷ []))

  notes-static_slots : (vars : List VarRef) (further : List Slot → Code) → ((slots : List Slot) → Notes (further slots)) → (slots : List Slot) → Notes (static_slots spec vars further slots)
  notes-static_slots [] further h slots = h slots
  notes-static_slots (var ∷ vars) further h slots =
      notes-static_slot var.class (initial_of (variable_definition spec var)) (static_slots spec vars further) (notes-static_slots vars further h) slots

  notes-static_tested : (class : Name) (declared : TypeTree) (initial : Option ExprTree) (slot : Slot) (further : Code) → Notes further → Notes (static_tested spec class declared initial slot further)
  notes-static_tested class declared (Some initial) (Held v) further h =
      bind-asks IsNoted (fitted spec no_nest (Some class) declared (expr_place initial) v []) (came (expr_place initial) (λ fitting_v. further))
      (notes-fitted spec no_nest (Some class) declared (expr_place initial) v [])
      (notes-came (expr_place initial) (λ fitting_v. further) (λ fitting_v. h))
  notes-static_tested class declared _ _ further h = h

  notes-static_typed : (class : Name) (found : Option VariableTree) (slot : Slot) (further : Code) → Notes further → Notes (static_typed spec class found slot further)
  notes-static_typed class None slot further h = h
  notes-static_typed class (Some variable) slot further h = notes-static_tested class variable.declared variable.initial slot further h

  notes-statics_typed : (vars : List VarRef) (slots : List Slot) (further : Code) → Notes further → Notes (statics_typed spec vars slots further)
  notes-statics_typed (var ∷ vars) (slot ∷ slots) further h =
      notes-static_typed var.class (variable_definition spec var) slot (statics_typed spec vars slots further) (notes-statics_typed vars slots further h)
  notes-statics_typed _ _ further h = h

  notes-class_objects : (tree : ExprTree) (object : ℕ) (classes : List Name) → Notes (make_class_objects spec object classes (part (whole_expression tree) ended))
  notes-class_objects tree object [] = notes-ended
  notes-class_objects tree object (class ∷ classes) =
      let vars = class_variables spec class in
      let further = make_class_objects spec (object + 1) classes (part (whole_expression tree) ended) in
      notes-static_slots vars (object_of_class spec object class vars further)
      (λ slots. notes-statics_typed vars slots (ask (noted (Class object class slots)) (λ answer. further)) (tt, λ a. notes-class_objects tree (object + 1) classes)) []

  -- so a need as such is never what main needs, whatever it is answered
  pub main-notes : (tree : ExprTree) (answers : List Answer) (units : ℕ) → NeedsOnly IsNoted (run (meaning (plan_of (of_thread spec)) spent) (main_plan spec tree) answers units)
  main-notes tree answers units = needs-only IsNoted (plan_of (of_thread spec)) spent notes-task (main_plan spec tree) (notes-class_objects tree 0 (classes_of spec)) answers units
