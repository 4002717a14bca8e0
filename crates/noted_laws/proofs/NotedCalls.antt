-- Calls and new objects: what a thread does for them it asks by questions that entries answer.
use Rattle.std.proofs.Common.{◌∷◌, ◌++◌, [], Bool, List, Option, Some, None, false, length, take, true, ℕ}
use Rattle.std.specs.List.{flat_map}
use Rattle.vdm_kinds.specs.declared.member.OpRef.{OpRef}
use Rattle.vdm_kinds.specs.declared.member.VarRef.{VarRef}
use Rattle.vdm_kinds.specs.declared.name.Name.{Name}
use Rattle.vdm_kinds.specs.declared.place.Place.{Place}
use Rattle.vdm_kinds.specs.declared.run_fault.RunFault.TheVariants.{NoMatch}
use Rattle.vdm_values.specs.declared.slot.Slot.{Slot}
use Rattle.vdm_values.specs.declared.slot.Slot.TheVariants.{Unset, Held}
use Rattle.abstract_syntax.specs.Types.{TypeTree}
use Rattle.abstract_syntax.specs.Values.{ValueTree, object}
use Rattle.abstract_syntax.specs.Expressions.{ExprTree}
use Rattle.abstract_syntax.specs.Statements.{StmtTree}
use Rattle.abstract_syntax.specs.Classes.{Body, written, OperationTree, SpecTree}
use Rattle.pattern_meaning.specs.Brackets.{given_in}
use Rattle.run_journal.specs.declared.answer.Answer.{Answer}
use Rattle.run_journal.specs.declared.answer.Answer.TheVariants.{Inner, Object, Ticks}
use Rattle.node_meaning.specs.Envs.{Locals, no_nest, old_name}
use Rattle.node_meaning.specs.Matching.{exprs_of, first_match}
use Rattle.node_meaning.specs.Names.{operation_definition, variable_definition, variables_of}
use Rattle.node_meaning.specs.Needs.{asked, slot_in}
use Rattle.node_meaning.specs.Tasks.{Code, Flow, gave, next, returned, exited, fault, Need, reads, calls, creates, prints, tells_time}
use Rattle.node_meaning.specs.Wanted.{Wanted, a_value, no_value, given_slot, given}
use Rattle.stmt_meaning.specs.Calling.{Calling, Giving, calling_here, gives_object, gives_slot, is_constructor}
use Rattle.stmt_meaning.specs.Calls.{activated, back, binds, body_left, body_of, bound, called, left_with, olds_read, post_decided, post_of, pre_decided, pre_of, requested, result_given, result_local, unless_due, value_given}
use Rattle.stmt_meaning.specs.Keeping.{holding_of, keeps}
use Rattle.stmt_meaning.specs.Objects.{Making, constructed, constructor_named, created, initial_of, initial_then, initial_value, initialise, make_object, new_object, object_if}
use Rattle.stmt_meaning.specs.Olds.{Old, old_variables}
use Rattle.stmt_meaning.specs.Questions.{called_if, of_thread, questions_of, time_answered}
use Rattle.noted_laws.proofs.OnlyAsked.{bind-asks}
use Rattle.noted_laws.proofs.Noting.{IsNoted, Notes, Onward, OnwardWith, notes-bound_or, notes-collected, notes-decided, notes-slots_typed, notes-typed, notes-values_typed}

-- ---- calls

notes-given_slot : (wanted : Wanted) (place : Place) (slot : Slot) (locals : Locals) → Notes (given_slot wanted place slot locals)
notes-given_slot no_value place slot locals = tt
notes-given_slot a_value place (Held v) locals = tt
notes-given_slot a_value place Unset locals = tt

pub notes-given : (wanted : Wanted) (place : Place) (flow : Flow) → Notes (given wanted place flow)
notes-given wanted place (gave slot locals) = notes-given_slot wanted place slot locals
notes-given wanted place (next locals) = tt
notes-given wanted place (returned slot locals) = tt
notes-given wanted place (exited v from locals) = tt

module _ (spec : SpecTree) (c : Calling) where
  -- ---- its end

  notes-post_decided : (slot : Slot) → OnwardWith (post_decided c slot)
  notes-post_decided slot true inner = (tt, λ a. tt)
  notes-post_decided slot false inner = tt

  notes-post_of : (post : Option ExprTree) (slot : Slot) → Onward (post_of c post slot)
  notes-post_of None slot inner = (tt, λ a. tt)
  notes-post_of (Some post) slot inner = notes-decided (calling_here c) (inner ++ result_local slot) post c.place (post_decided c slot) (notes-post_decided slot)

  notes-result_given : (slot : Slot) → Onward (result_given c slot)
  notes-result_given slot = notes-post_of c.operation.post slot

  notes-unless_due : (b : Bool) → Onward (unless_due c b)
  notes-unless_due true inner = notes-result_given Unset inner
  notes-unless_due false inner = tt

  notes-left_with : (declared : Option TypeTree) (slot : Slot) → Onward (left_with spec c declared slot)
  notes-left_with None Unset inner = notes-result_given Unset inner
  notes-left_with None (Held v) inner = tt
  notes-left_with (Some declared) Unset inner = notes-unless_due (is_constructor c) inner
  notes-left_with (Some declared) (Held v) inner =
      notes-typed spec no_nest (Some c.op.class) declared c.place (value_given c) (λ result. notes-result_given (Held result)) v inner

  notes-body_left : (count : ℕ) (flow : Flow) → Notes (body_left spec c count flow)
  notes-body_left count (gave slot inner) = tt
  notes-body_left count (next inner) = notes-left_with c.operation.result_type Unset (take count inner)
  notes-body_left count (returned slot inner) = notes-left_with c.operation.result_type slot (take count inner)
  notes-body_left count (exited v from inner) = (tt, λ a. tt)

  -- ---- its body

  notes-body_of : (body : Body StmtTree) → Onward (body_of spec c body)
  notes-body_of (written body) inner = notes-body_left (length inner)
  notes-body_of _ inner = tt

  notes-pre_decided : OnwardWith (pre_decided spec c)
  notes-pre_decided true inner = notes-body_of c.operation.body inner
  notes-pre_decided false inner = tt

  notes-pre_of : (pre : Option ExprTree) → Onward (pre_of spec c pre)
  notes-pre_of None inner = notes-body_of c.operation.body inner
  notes-pre_of (Some pre) inner = notes-decided (calling_here c) inner pre c.place (pre_decided spec c) notes-pre_decided

  notes-bound : OnwardWith (bound spec c)
  notes-bound given =
      notes-bound_or c.place (first_match spec (Some c.op.class) c.operation.patterns given c.arguments) (pre_of spec c c.operation.pre)
      (λ missed. fault NoMatch c.place) (notes-pre_of c.operation.pre) (λ missed. tt)

  notes-binds : Onward (binds spec c)
  notes-binds = notes-collected (calling_here c) c.place (exprs_of (flat_map given_in c.operation.patterns)) [] (bound spec c) notes-bound

  -- ---- its begin

  notes-olds_read : (olds : List Old) → Onward (olds_read spec c olds)
  notes-olds_read [] inner = notes-binds inner
  notes-olds_read (old ∷ olds) inner = (tt, λ answer. notes-olds_read olds (inner ++ (old_name old.name, slot_in answer) ∷ []))

  notes-activated : (outer : Locals) (answer : Answer) → Notes (activated spec c outer answer)
  notes-activated outer (Inner inner) = tt
  notes-activated outer _ = bind-asks IsNoted (olds_read spec c (old_variables spec c) []) (back outer) (notes-olds_read (old_variables spec c) []) (λ flow. tt)

  notes-requested : (outer : Locals) → Notes (requested spec c outer)
  notes-requested outer = (tt, λ a. (tt, notes-activated outer))

notes-called : (spec : SpecTree) (me : ℕ) (own : Name) (op : OpRef) (operation : OperationTree) (vs : List ValueTree) (places : List Place) (place : Place) (gives : Giving) → Onward (called spec me own op operation vs places place gives)
notes-called spec me own op operation vs places place gives =
    notes-values_typed spec (Some op.class) operation.parameters places vs
    (requested spec (record { me = me; own = own; op = op; operation = operation; arguments = vs; place = place; gives = gives }))
    (notes-requested spec (record { me = me; own = own; op = op; operation = operation; arguments = vs; place = place; gives = gives }))

-- ---- new objects

module _ (spec : SpecTree) (m : Making) where
  notes-constructed : (number : ℕ) (found : Option OperationTree) → Onward (constructed spec m number found)
  notes-constructed number None locals = tt
  notes-constructed number (Some operation) locals =
      notes-called spec number m.class (constructor_named m) operation m.arguments m.places m.place (gives_object (object number m.class)) locals

  notes-created : (locals : Locals) (answer : Answer) → Notes (created spec m locals answer)
  notes-created locals (Object number) = notes-constructed number (operation_definition spec (constructor_named m)) locals
  notes-created locals _ = tt

  notes-object_if : (slots : List Slot) (kept : Bool) → Onward (object_if spec m slots kept)
  notes-object_if slots true locals = (tt, notes-created locals)
  notes-object_if slots false locals = tt

  notes-make_object : (locals : Locals) (vars : List VarRef) (slots : List Slot) → Notes (make_object spec m locals vars slots)
  notes-make_object locals vars slots =
      let kept = keeps spec m.class (holding_of vars slots) in notes-slots_typed spec m.place vars slots (object_if spec m slots kept) (notes-object_if slots kept) locals

  module _ (locals : Locals) where
    notes-initial_value : (rest : List Slot → Code) → ((slots : List Slot) → Notes (rest slots)) → (slots : List Slot) (flow : Flow) → Notes (initial_value m.place locals rest slots flow)
    notes-initial_value rest h slots (gave (Held v) inner) = h (slots ++ Held v ∷ [])
    notes-initial_value rest h slots (gave Unset inner) = tt
    notes-initial_value rest h slots (next inner) = tt
    notes-initial_value rest h slots (returned slot inner) = tt
    notes-initial_value rest h slots (exited v from inner) = tt

    notes-initial_then : (class : Name) (initial : Option ExprTree) (rest : List Slot → Code) → ((slots : List Slot) → Notes (rest slots)) → (slots : List Slot) → Notes (initial_then m class initial locals rest slots)
    notes-initial_then class None rest h slots = h (slots ++ Unset ∷ [])
    notes-initial_then class (Some initial) rest h slots = notes-initial_value rest h slots

    notes-initialise : (vars left : List VarRef) (slots : List Slot) → Notes (initialise spec m locals vars left slots)
    notes-initialise vars [] slots = notes-make_object locals vars slots
    notes-initialise vars (var ∷ left) slots =
        notes-initial_then var.class (initial_of (variable_definition spec var)) (initialise spec m locals vars left) (notes-initialise vars left) slots

  notes-new_object : (vars : Option (List VarRef)) → Onward (new_object spec m vars)
  notes-new_object None locals = tt
  notes-new_object (Some vars) locals = notes-initialise locals vars vars []

-- ---- needs

notes-called_if : (spec : SpecTree) (me : ℕ) (own : Name) (op : OpRef) (found : Option OperationTree) (vs : List ValueTree) (places : List Place) (place : Place) → Onward (called_if spec me own op found vs places place)
notes-called_if spec me own op None vs places place locals = tt
notes-called_if spec me own op (Some operation) vs places place locals = notes-called spec me own op operation vs places place gives_slot locals

notes-time_answered : (place : Place) (locals : Locals) (answer : Answer) → Notes (time_answered place locals answer)
notes-time_answered place locals (Ticks told) = tt
notes-time_answered place locals _ = tt

notes-questions : (spec : SpecTree) (need : Need) (place : Place) (locals : Locals) → Notes (questions_of spec need place locals)
notes-questions spec (reads me var) place locals = (tt, λ a. tt)
notes-questions spec (calls me own op vs places) place locals = notes-called_if spec me own op (operation_definition spec op) vs places place locals
notes-questions spec (creates class vs places) place locals =
    notes-new_object spec (record { class = class; arguments = vs; places = places; place = place }) (variables_of spec class) locals
notes-questions spec (prints vs) place locals = (tt, λ answer. tt)
notes-questions spec tells_time place locals = (tt, notes-time_answered place locals)

-- of a need a thread asks what entries answer
pub notes-asked : (spec : SpecTree) (need : Need) (place : Place) (locals : Locals) (further : Flow → Code) → ((flow : Flow) → Notes (further flow)) → Notes (asked (of_thread spec) need place locals further)
notes-asked spec need place locals further h = bind-asks IsNoted (questions_of spec need place locals) further (notes-questions spec need place locals) h
