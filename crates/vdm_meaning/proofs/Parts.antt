-- Parts of plans that keep the rules: where a plan stands, how it fails, and expressions whose value is wanted.
use Rattle.std.proofs.Common.{◌≡◌, ◌++◌, ◌∷◌, [], if◌then◌else◌, Bool, List, None, Option, Some, false, take, true, ℕ}
use Rattle.std.specs.List.{AllByRecursion as Each}
use Rattle.vdm_kinds.specs.declared.name.Name.{Name}
use Rattle.vdm_kinds.specs.declared.place.Place.{Place}
use Rattle.vdm_kinds.specs.declared.run_fault.RunFault.{RunFault}
use Rattle.vdm_kinds.specs.declared.run_fault.RunFault.TheVariants.{Undefined}
use Rattle.vdm_values.specs.declared.slot.Slot.{Slot}
use Rattle.vdm_values.specs.declared.slot.Slot.TheVariants.{Unset, Held as Holds}
use Rattle.abstract_syntax.specs.Values.{ValueTree}
use Rattle.abstract_syntax.specs.Expressions.{ExprTree}
use Rattle.abstract_syntax.specs.Classes.{SpecTree}
use Rattle.value_parts.proofs.Everywhere.{each_append, each_take}
use Rattle.run_journal.specs.declared.entry.Entry.{Entry}
use Rattle.plans.specs.Plans.{ask, become, bind, fail, finish, part}
use Rattle.vdm_legal.specs.ClassObjects.{AreMade}
use Rattle.vdm_legal.proofs.Known.{IsKnown, IsKnownSlot, each_wider, known-on, made-on, slot-on, there-on}
use Rattle.vdm_legal.proofs.Sanity.{IsSane, IsWithin, within-self, within-then}
use Rattle.node_meaning.specs.Faults.{fault_at}
use Rattle.node_meaning.specs.Tasks.{Code, Flow, Task, cut_to, evaluated, exited, expr_in, gave, next, returned, value, with_value}
use Rattle.node_meaning.specs.Envs.{Locals, Nest, Here, at, inside_class}
use Rattle.vdm_meaning.proofs.Rules.{AreKnown, GivesKnown, HasObject, IsOn, IsSafe, Keeps, MayBegin, MayFail, MayLeave, MayRun}

-- ---- what is known behind some entries is known behind later ones

-- each of some values is known
abbrev pub EachKnown : SpecTree → List Entry → List ValueTree → Type 0
EachKnown spec entries = Each (IsKnown spec entries)

module _ (now more later : List Entry) (e : later ≡ now ++ more) (spec : SpecTree) where
  locals-behind : (locals : Locals) → AreKnown spec now locals → AreKnown spec later locals
  locals-behind =
      each_wider (λ (l : Name × Slot). IsKnownSlot spec now l.1) (λ (l : Name × Slot). IsKnownSlot spec later l.1)
      (λ (l : Name × Slot). slot-on now more later e spec l.1)

  pub object-behind : (me : Option ℕ) → HasObject spec now me → HasObject spec later me
  object-behind None h = tt
  object-behind (Some me) h = (there-on now more later e me h.0, made-on now more later e spec h.1)

  pub flow-behind : (flow : Flow) → GivesKnown spec now flow → GivesKnown spec later flow
  flow-behind (gave slot locals) h = (slot-on now more later e spec slot h.0, locals-behind locals h.1)
  flow-behind (next locals) h = locals-behind locals h
  flow-behind (returned slot locals) h = (slot-on now more later e spec slot h.0, locals-behind locals h.1)
  flow-behind (exited v from locals) h = (known-on now more later e spec v h.0, locals-behind locals h.1)

-- what may run behind some entries may run behind further ones
pub run-behind : {spec : SpecTree} (now more later : List Entry) → later ≡ now ++ more → (here : Here) (locals : Locals) → MayRun spec now here locals → IsSane spec later → MayRun spec later here locals
run-behind {spec = spec} now more later e here locals h sane = record {
  sane = sane;
  main = there-on now more later e 0 h.main;
  classes = λ acts. made-on now more later e spec (h.classes acts);
  me = object-behind now more later e spec here.me h.me;
  held = h.held;
  known = locals-behind now more later e spec locals h.known;
}

module _ {spec : SpecTree} (now later : List Entry) (w : IsWithin spec now later) where
  pub value-on : (v : ValueTree) → IsKnown spec now v → IsKnown spec later v
  value-on = known-on now w.more later w.behind spec

  pub values-on : (vs : List ValueTree) → EachKnown spec now vs → EachKnown spec later vs
  values-on = each_wider (IsKnown spec now) (IsKnown spec later) value-on

  pub lists-on : (lists : List (List ValueTree)) → Each (EachKnown spec now) lists → Each (EachKnown spec later) lists
  lists-on = each_wider (EachKnown spec now) (EachKnown spec later) values-on

  pub held_slot-on : (slot : Slot) → IsKnownSlot spec now slot → IsKnownSlot spec later slot
  held_slot-on = slot-on now w.more later w.behind spec

  pub slots-on : (slots : List Slot) → Each (IsKnownSlot spec now) slots → Each (IsKnownSlot spec later) slots
  slots-on = each_wider (IsKnownSlot spec now) (IsKnownSlot spec later) held_slot-on

  pub locals-on : (locals : Locals) → AreKnown spec now locals → AreKnown spec later locals
  locals-on = locals-behind now w.more later w.behind spec

  pub object-on : (me : Option ℕ) → HasObject spec now me → HasObject spec later me
  object-on = object-behind now w.more later w.behind spec

  pub is_on-on : (object : ℕ) → IsOn spec now object → IsOn spec later object
  is_on-on object = object-on (Some object)

  pub classes-on : AreMade spec now → AreMade spec later
  classes-on = made-on now w.more later w.behind spec

-- ---- where a plan stands

-- a plan that began behind the first entries stands behind later ones, with these locals
pub record IsAt (spec : SpecTree) (first now : List Entry) (here : Here) (locals : Locals) : Type 0 where
  pub within : IsWithin spec first now
  pub may : MayRun spec now here locals

pub at-start : {spec : SpecTree} {first : List Entry} {here : Here} {locals : Locals} → MayRun spec first here locals → IsAt spec first first here locals
at-start {first = first} h = record { within = within-self first; may = h }

pub at-later : {spec : SpecTree} {first now later : List Entry} {here : Here} {locals : Locals} → IsAt spec first now here locals → IsWithin spec now later → IsSane spec later → IsAt spec first later here locals
at-later {first = first} {now = now} {later = later} {here = here} {locals = locals} is_at w sane = record {
  within = within-then first now later is_at.within w;
  may = run-behind now w.more later w.behind here locals is_at.may sane;
}

-- with other locals
pub at-among : {spec : SpecTree} {first now : List Entry} {here : Here} {locals : Locals} → IsAt spec first now here locals → (others : Locals) → AreKnown spec now others → IsAt spec first now here others
at-among is_at others known = record {
  within = is_at.within;
  may = record { sane = is_at.may.sane; main = is_at.may.main; classes = is_at.may.classes; me = is_at.may.me; held = is_at.may.held; known = known };
}

-- what was left behind later entries goes on there, with the locals that were left
pub at-behind : {spec : SpecTree} {first now later : List Entry} {here : Here} {locals : Locals} → IsAt spec first now here locals → IsWithin spec now later → IsSane spec later → (others : Locals) → AreKnown spec later others → IsAt spec first later here others
at-behind is_at w sane others known = at-among (at-later is_at w sane) others known

-- in a function, a class value or an invariant of a type, which stand on no object, and may not act
pub at-inside : {spec : SpecTree} {first now : List Entry} {here : Here} {locals : Locals} (class : Name) (nest : Nest) → IsAt spec first now here locals → IsAt spec first now (inside_class class nest) []
at-inside class nest is_at = record {
  within = is_at.within;
  may = record { sane = is_at.may.sane; main = is_at.may.main; classes = λ acts. let never : false ≡ true = acts in absurd (cc); me = tt; held = tt; known = tt };
}

-- with one local more
pub at-more : {spec : SpecTree} {first now : List Entry} {here : Here} {locals : Locals} → IsAt spec first now here locals → (name : Name) (slot : Slot) → IsKnownSlot spec now slot → IsAt spec first now here (locals ++ (name, slot) ∷ [])
at-more {spec = spec} {now = now} {locals = locals} is_at name slot known =
    at-among is_at (locals ++ (name, slot) ∷ []) (each_append (λ (l : Name × Slot). IsKnownSlot spec now l.1) locals ((name, slot) ∷ []) is_at.may.known (known, tt))

-- the first so many of known locals are known
pub cut-known : (spec : SpecTree) (now : List Entry) (count : ℕ) (locals : Locals) → AreKnown spec now locals → AreKnown spec now (take count locals)
cut-known spec now count locals known = each_take (λ (l : Name × Slot). IsKnownSlot spec now l.1) count locals known

pub at-cut : {spec : SpecTree} {first now : List Entry} {here : Here} {locals : Locals} (count : ℕ) → IsAt spec first now here locals → IsAt spec first now here (take count locals)
at-cut {spec = spec} {now = now} {locals = locals} count is_at = at-among is_at (take count locals) (cut-known spec now count locals is_at.may.known)

-- ---- faults

-- a fault that is no exit may be failed with wherever tasks are done
pub may-fail : (spec : SpecTree) {now : List Entry} {here : Here} {locals : Locals} (kind : RunFault) (place : Place) → MayRun spec now here locals → MayFail spec now (fault_at kind place)
may-fail spec kind place h = record { ready = h.main; sane = h.sane; turn = tt }

-- ---- what is done next

-- what is done from any known locals behind any later entries keeps the rules
abbrev pub Goes : SpecTree → List Entry → Here → List Entry → (Locals → Code) → Type 0
Goes spec first here now f =
    (later : List Entry) (locals : Locals) → IsWithin spec now later → IsAt spec first later here locals → IsSafe spec first later (f locals)

-- ... and with anything that has a property
abbrev pub GoesWith : {X : Type 0} → (List Entry → X → Type 0) → SpecTree → List Entry → Here → List Entry → (X → Locals → Code) → Type 0
GoesWith {X} Q spec first here now f =
    (later : List Entry) (x : X) (locals : Locals) → IsWithin spec now later → IsAt spec first later here locals → Q later x → IsSafe spec first later (f x locals)

pub goes-later : {X : Type 0} (Q : List Entry → X → Type 0) (spec : SpecTree) (first : List Entry) (here : Here) (now later : List Entry) (f : X → Locals → Code) → IsWithin spec now later → GoesWith Q spec first here now f → GoesWith Q spec first here later f
goes-later Q spec first here now later f w goes end x locals v is_at q = goes end x locals (within-then now later end w v) is_at q

-- one plan, and what follows its result, whatever that leaves; the first began behind `begun`
module _ (spec : SpecTree) (left : List Entry → Flow → Type 0) (begun first : List Entry) (after : Flow → Code) (goes : (later : List Entry) (flow : Flow) → IsWithin spec begun later → MayLeave spec later flow → Keeps spec left first later (after flow)) where
  pub bind-keeps : (code : Code) (now : List Entry) → IsSafe spec begun now code → Keeps spec left first now (bind code after)
  bind-keeps (finish flow) now safe = goes now flow safe.0 safe.1
  bind-keeps (fail f) now safe = safe
  bind-keeps (ask q further) now safe = (safe.0, λ a later taken. bind-keeps (further a) later (safe.1 a later taken))
  bind-keeps (part task further) now safe = (safe.0, λ later flow w leaves. bind-keeps (further flow) later (safe.1 later flow w leaves))
  bind-keeps (become task) now safe = (safe.0, λ later flow w leaves. let ends = safe.1 later flow w leaves in goes later flow ends.0 ends.1)

module _ (spec : SpecTree) (begun first : List Entry) (after : Flow → Code) (goes : (later : List Entry) (flow : Flow) → IsWithin spec begun later → MayLeave spec later flow → IsSafe spec first later (after flow)) where
  pub safe-bind : (code : Code) (now : List Entry) → IsSafe spec begun now code → IsSafe spec first now (bind code after)
  safe-bind = bind-keeps spec (MayLeave spec) begun first after goes

-- ---- values

module _ (spec : SpecTree) where
  pub safe-finish : {first now : List Entry} {here : Here} {locals : Locals} (flow : Flow) → IsAt spec first now here locals → GivesKnown spec now flow → IsSafe spec first now (finish flow)
  safe-finish flow is_at known = (is_at.within, (is_at.may.sane, known))

  pub safe-value : {first now : List Entry} {here : Here} {locals : Locals} (v : ValueTree) → IsAt spec first now here locals → IsKnown spec now v → IsSafe spec first now (value v locals)
  safe-value v is_at known = (is_at.within, (is_at.may.sane, (known, is_at.may.known)))

  -- what is done with a value that came, or the fault where none came
  pub safe-with_value : {first now : List Entry} {here : Here} {locals : Locals} (place : Place) (further : ValueTree → Locals → Code) (flow : Flow) → IsAt spec first now here locals → GivesKnown spec now flow → ((v : ValueTree) (after : Locals) → IsKnown spec now v → AreKnown spec now after → IsSafe spec first now (further v after)) → IsSafe spec first now (with_value place further flow)
  safe-with_value place further (gave (Holds v) after) is_at known goes = goes v after known.0 known.1
  safe-with_value place further (gave Unset after) is_at known goes = may-fail spec Undefined place is_at.may
  safe-with_value place further (next after) is_at known goes = may-fail spec Undefined place is_at.may
  safe-with_value place further (returned slot after) is_at known goes = may-fail spec Undefined place is_at.may
  safe-with_value place further (exited v from after) is_at known goes = (is_at.within, (is_at.may.sane, known))

  pub safe-if : (first now : List Entry) (b : Bool) (p q : Code) → IsSafe spec first now p → IsSafe spec first now q → IsSafe spec first now (if b then p else q)
  safe-if first now true p q h k = h
  safe-if first now false p q h k = k

  -- ---- parts

  -- an expression, and what is done with its value
  pub safe-evaluated : (first now : List Entry) (here : Here) (locals : Locals) (tree : ExprTree) (place : Place) (further : ValueTree → Locals → Code) → IsAt spec first now here locals → GoesWith (IsKnown spec) spec first here now further → IsSafe spec first now (evaluated here locals tree place further)
  safe-evaluated first now here locals tree place further is_at goes = (
    is_at.may,
    λ later flow w leaves.
        safe-with_value place further flow (at-later is_at w leaves.0) leaves.1
        (λ v after known others. goes later v after w (at-behind is_at w leaves.0 after others) known),
  )

  -- a task in the place of the node
  pub safe-become_task : {first now : List Entry} {here : Here} {locals : Locals} (task : Task) → IsAt spec first now here locals → MayBegin spec now task → IsSafe spec first now (become task)
  safe-become_task {first = first} {now = now} task is_at begins = (begins, λ later flow w leaves. (within-then first now later is_at.within w, leaves))

  pub safe-cut : {first now : List Entry} {here : Here} {locals : Locals} (count : ℕ) (flow : Flow) → IsAt spec first now here locals → GivesKnown spec now flow → IsSafe spec first now (cut_to count flow)
  safe-cut {now = now} count (gave slot after) is_at known = (is_at.within, (is_at.may.sane, (known.0, cut-known spec now count after known.1)))
  safe-cut {now = now} count (next after) is_at known = (is_at.within, (is_at.may.sane, cut-known spec now count after known))
  safe-cut {now = now} count (returned slot after) is_at known = (is_at.within, (is_at.may.sane, (known.0, cut-known spec now count after known.1)))
  safe-cut {now = now} count (exited v from after) is_at known = (is_at.within, (is_at.may.sane, (known.0, cut-known spec now count after known.1)))

module _ (spec : SpecTree) where
  -- an expression in the place of the node
  pub safe-become : (first now : List Entry) (here : Here) (locals : Locals) (tree : ExprTree) → IsAt spec first now here locals → IsSafe spec first now (become (expr_in (at here locals) tree))
  safe-become first now here locals tree is_at = safe-become_task spec (expr_in (at here locals) tree) is_at is_at.may

  -- ... without the locals that were bound for it
  pub safe-within : (first now : List Entry) (here : Here) (count : ℕ) (body : ExprTree) (locals : Locals) → IsAt spec first now here locals → IsSafe spec first now (part (expr_in (at here locals) body) (cut_to count))
  safe-within first now here count body locals is_at = (is_at.may, λ later flow w leaves. safe-cut spec count flow (at-later is_at w leaves.0) leaves.1)
