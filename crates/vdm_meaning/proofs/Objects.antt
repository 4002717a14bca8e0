-- New objects keep the rules of journals, and are known.
use Rattle.std.proofs.Common.{◌++◌, ◌∷◌, [], Bool, false, true, List, None, Option, Some, refl, ℕ}
use Rattle.std.specs.List.{AllByRecursion as Each}
use Rattle.vdm_kinds.specs.declared.member.VarRef.{VarRef}
use Rattle.vdm_kinds.specs.declared.name.Name.{Name}
use Rattle.vdm_kinds.specs.declared.run_fault.RunFault.TheVariants.{InstanceInvariant, Undefined}
use Rattle.vdm_values.specs.declared.slot.Slot.{Slot}
use Rattle.vdm_values.specs.declared.slot.Slot.TheVariants.{Unset, Held}
use Rattle.abstract_syntax.specs.Classes.{OperationTree, SpecTree}
use Rattle.abstract_syntax.specs.Expressions.{ExprTree}
use Rattle.abstract_syntax.specs.Values.{object}
use Rattle.value_parts.proofs.Everywhere.{each_append}
use Rattle.run_journal.specs.declared.deed.Deed.TheVariants as deed
use Rattle.run_journal.specs.declared.entry.Entry.{Entry}
use Rattle.run_journal.specs.declared.thread.Thread.TheVariants.{Main}
use Rattle.run_journal.specs.Made.{entry}
use Rattle.vdm_legal.specs.ClassObjects.{AreMade}
use Rattle.vdm_legal.proofs.Known.{IsKnownSlot, IsThere, there-last}
use Rattle.vdm_legal.proofs.Sanity.{IsQuiet, IsWithin, quiet-sane, quiet-within, within-self, within-then}
use Rattle.node_meaning.specs.Envs.{Here, Locals, initialising}
use Rattle.node_meaning.specs.Names.{operation_definition, variable_definition}
use Rattle.node_meaning.specs.Tasks.{Code, Flow, exited, gave, next, returned}
use Rattle.stmt_meaning.specs.Calling.{gives_object}
use Rattle.stmt_meaning.specs.Keeping.{holding_of, keeps}
use Rattle.stmt_meaning.specs.Objects.{Making, constructed, constructor_named, created, initial_of, initial_then, initial_value, initialise, make_object, new_object, object_asked, object_if}
use Rattle.vdm_meaning.proofs.Rules.{GivesKnown, IsSafe, MayLeave, MayRun}
use Rattle.vdm_meaning.proofs.Parts.{EachKnown, IsAt, at-later, classes-on, may-fail, safe-finish, safe-value, slots-on, values-on}
use Rattle.vdm_meaning.proofs.Asking.{safe-New}
use Rattle.vdm_meaning.proofs.Calls.{safe-called}
use Rattle.vdm_meaning.proofs.Fitting.{safe-slots_typed}

new-quiet : (class : Name) (slots : List Slot) → IsQuiet (deed.New class slots)
new-quiet class slots = λ name. (refl, refl, refl)

-- each of the slots that were made is unset or holds a known value
abbrev AreKnownSlots : SpecTree → List Entry → List Slot → Type 0
AreKnownSlots spec entries = Each (IsKnownSlot spec entries)

slot-more : (spec : SpecTree) (entries : List Entry) (slots : List Slot) (slot : Slot) → AreKnownSlots spec entries slots → IsKnownSlot spec entries slot → AreKnownSlots spec entries (slots ++ slot ∷ [])
slot-more spec entries slots slot h k = each_append (IsKnownSlot spec entries) slots (slot ∷ []) h (k, tt)

module _ (spec : SpecTree) (first : List Entry) (here : Here) (m : Making) where
  -- all class objects are made, and the arguments for the constructor are known
  abbrev MayMake : List Entry → Type 0
  MayMake now = AreMade spec now × EachKnown spec now m.arguments

  make-on : (now later : List Entry) → IsWithin spec now later → MayMake now → MayMake later
  make-on now later w h = (classes-on now later w h.0, values-on now later w m.arguments h.1)

  -- ---- its constructor

  safe-constructed : (now : List Entry) (number : ℕ) (found : Option OperationTree) (locals : Locals) → IsAt spec first now here locals → IsThere spec now number m.class → MayMake now → IsSafe spec first now (constructed spec m number found locals)
  safe-constructed now number None locals is_at there may = safe-value spec (object number m.class) is_at there
  safe-constructed now number (Some operation) locals is_at there may =
      safe-called spec first now here locals number m.class (constructor_named m) operation m.arguments m.places m.place (gives_object (object number m.class)) is_at there may.1 there

  -- ---- its variables

  safe-object_asked : (now : List Entry) (slots : List Slot) (locals : Locals) → IsAt spec first now here locals → AreKnownSlots spec now slots → MayMake now → IsSafe spec first now (object_asked spec m slots locals)
  safe-object_asked now slots locals is_at known may =
      safe-New spec (MayLeave spec) first now (created spec m locals) m.class slots (record { ready = tt; sane = is_at.may.sane; turn = may.0 }) (λ o.
      let after = now ++ entry Main o (deed.New m.class slots) ∷ [] in
      let sane = quiet-sane now o (deed.New m.class slots) (new-quiet m.class slots) is_at.may.sane known refl in
      let within = quiet-within now o (deed.New m.class slots) (new-quiet m.class slots) spec may.0 in
      safe-constructed after o (operation_definition spec (constructor_named m)) locals (at-later is_at within sane)
      (there-last now o (deed.New m.class slots), classes-on now after within may.0) (make-on now after within may))

  safe-object_if : (now : List Entry) (slots : List Slot) (kept : Bool) (locals : Locals) → IsAt spec first now here locals → AreKnownSlots spec now slots → MayMake now → IsSafe spec first now (object_if spec m slots kept locals)
  safe-object_if now slots true locals is_at known may = safe-object_asked now slots locals is_at known may
  safe-object_if now slots false locals is_at known may = may-fail spec InstanceInvariant m.place is_at.may

  safe-make_object : (now : List Entry) (vars : List VarRef) (slots : List Slot) (locals : Locals) → IsAt spec first now here locals → AreKnownSlots spec now slots → MayMake now → IsSafe spec first now (make_object spec m locals vars slots)
  safe-make_object now vars slots locals is_at known may =
      let kept = keeps spec m.class (holding_of vars slots) in
      safe-slots_typed spec first here vars slots now m.place (object_if spec m slots kept) locals is_at known (λ later after w at_later.
      safe-object_if later slots kept after at_later (slots-on now later w slots known) (make-on now later w may))

  module _ (locals : Locals) where
    -- what is done behind any later entries with known slots keeps the rules
    abbrev Fills : List Entry → (List Slot → Code) → Type 0
    Fills now f = (later : List Entry) (slots : List Slot) → IsWithin spec now later → IsAt spec first later here locals → AreKnownSlots spec later slots → IsSafe spec first later (f slots)

    safe-initial_value : (now : List Entry) (rest : List Slot → Code) (slots : List Slot) (flow : Flow) → IsAt spec first now here locals → AreKnownSlots spec now slots → GivesKnown spec now flow → Fills now rest → IsSafe spec first now (initial_value m.place locals rest slots flow)
    safe-initial_value now rest slots (gave (Held v) inner) is_at known also fills = fills now (slots ++ Held v ∷ []) (within-self now) is_at (slot-more spec now slots (Held v) known also.0)
    safe-initial_value now rest slots (gave Unset inner) is_at known also fills = may-fail spec Undefined m.place is_at.may
    safe-initial_value now rest slots (next inner) is_at known also fills = may-fail spec Undefined m.place is_at.may
    safe-initial_value now rest slots (returned slot inner) is_at known also fills = may-fail spec Undefined m.place is_at.may
    safe-initial_value now rest slots (exited v from inner) is_at known also fills = safe-finish spec (exited v from locals) is_at (also.0, is_at.may.known)

    -- an initialiser may act, on no object
    initial-runs : (now : List Entry) (class : Name) → IsAt spec first now here locals → AreMade spec now → MayRun spec now (initialising m.class class) []
    initial-runs now class is_at made = record { sane = is_at.may.sane; main = is_at.may.main; classes = λ acts. made; me = tt; held = tt; known = tt }

    safe-initial_then : (now : List Entry) (class : Name) (initial : Option ExprTree) (rest : List Slot → Code) (slots : List Slot) → IsAt spec first now here locals → AreKnownSlots spec now slots → AreMade spec now → Fills now rest → IsSafe spec first now (initial_then m class initial locals rest slots)
    safe-initial_then now class None rest slots is_at known made fills = fills now (slots ++ Unset ∷ []) (within-self now) is_at (slot-more spec now slots Unset known tt)
    safe-initial_then now class (Some initial) rest slots is_at known made fills = (
      initial-runs now class is_at made,
      λ later flow w leaves.
          safe-initial_value later rest slots flow (at-later is_at w leaves.0) (slots-on now later w slots known) leaves.1
          (λ end more x at_end all. fills end more (within-then now later end w x) at_end all),
    )

    safe-initialise : (now : List Entry) (vars left : List VarRef) (slots : List Slot) → IsAt spec first now here locals → AreKnownSlots spec now slots → MayMake now → IsSafe spec first now (initialise spec m locals vars left slots)
    safe-initialise now vars [] slots is_at known may = safe-make_object now vars slots locals is_at known may
    safe-initialise now vars (var ∷ left) slots is_at known may =
        safe-initial_then now var.class (initial_of (variable_definition spec var)) (initialise spec m locals vars left) slots is_at known may.0 (λ later more w at_later all.
        safe-initialise later vars left more at_later all (make-on now later w may))

  pub safe-new_object : (now : List Entry) (locals : Locals) (vars : Option (List VarRef)) → IsAt spec first now here locals → AreMade spec now → EachKnown spec now m.arguments → IsSafe spec first now (new_object spec m vars locals)
  safe-new_object now locals None is_at made known = may-fail spec Undefined m.place is_at.may
  safe-new_object now locals (Some vars) is_at made known = safe-initialise locals now vars vars [] is_at tt (made, known)
