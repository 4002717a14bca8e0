-- What the instance invariants of an object keep.
use Rattle.std.specs.Prelude.{ℕ, Bool, true, false, ◌&&◌, List, [], ◌∷◌, map, Option, Some, None}
use Rattle.std.specs.List.{flat_map}
use Rattle.vdm_kinds.specs.declared.member.VarRef.{VarRef}
use Rattle.vdm_kinds.specs.declared.name.Name.{Name}
use Rattle.vdm_kinds.specs.declared.place.Place.{Place}
use Rattle.vdm_kinds.specs.declared.run_fault.RunFault.TheVariants.{UncaughtExit, Undefined}
use Rattle.vdm_values.specs.declared.slot.Slot.{Slot}
use Rattle.vdm_values.specs.declared.slot.Slot.TheVariants.{Unset, Held}
use Rattle.abstract_syntax.specs.Values.{boolean}
use Rattle.abstract_syntax.specs.Expressions.{ExprTree, expr_place}
use Rattle.abstract_syntax.specs.Classes.{VariableItem, variable_item, invariant_item, BlockTree, variables, ClassTree, SpecTree}
use Rattle.class_meaning.specs.Classes.{class_at, class_number}
use Rattle.class_meaning.specs.Ancestors.{ancestors}
use Rattle.class_meaning.specs.Objects.{listed}
use Rattle.run_journal.specs.declared.answer.Answer.{Answer}
use Rattle.plans.specs.Plans.{Outcome, gives, needs, part, run, meaning}
use Rattle.node_meaning.specs.Envs.{no_nest, Here, at}
use Rattle.node_meaning.specs.Faults.{Fault}
use Rattle.node_meaning.specs.Needs.{Setting, evaluator}
use Rattle.node_meaning.specs.Tasks.{expr_in, Flow, gave, next, returned, exited, reads, Query, needed, Code, spent, fault, value}
use Rattle.stmt_meaning.specs.TaskPlans.{plan_of}

-- ---- the invariants

-- the conditions of those that stand among instance variables, in text order
abbrev pub conditions_among : List VariableItem → List ExprTree
conditions_among [] = []
conditions_among (variable_item v ∷ items) = conditions_among items
conditions_among (invariant_item condition place ∷ items) = condition ∷ conditions_among items

abbrev pub conditions_in : BlockTree → List ExprTree
conditions_in (variables items place) = conditions_among items
conditions_in _ = []

abbrev pub class_conditions : ClassTree → List ExprTree
class_conditions class = flat_map conditions_in class.blocks

-- the condition of an invariant, and the class in which it stands
pub record Invariant : Type 0 where
  pub class : Name
  pub condition : ExprTree

abbrev pub class_invariants : ClassTree → List Invariant
class_invariants class = map (λ (e : ExprTree). record { class = class.name; condition = e }) (class_conditions class)

-- those of an object of the class of a number, in the order of its ancestors and in text order
abbrev pub invariants : SpecTree → ℕ → List Invariant
invariants spec k = flat_map (λ (a : ℕ). listed class_invariants (class_at spec a)) (ancestors spec k)

-- ---- one invariant

-- what variables of an object hold
abbrev pub Holding : Type 0
Holding = List (VarRef × Slot)

-- where an invariant of a class stands, for an object of its own class that holds this: it knows no number of the object
abbrev pub guarding : Name → Holding → Name → Here
guarding own holding class = record {
  scope = Some class;
  own = Some own;
  me = None;
  held = Some (record { variables = holding; counters = [] });
  nest = no_nest;
}

-- an invariant has as many units
abbrev pub guard_units : ℕ
guard_units = 100000

-- an exit that leaves it is a fault, and what is no value is undefined
abbrev pub alone : Place → Flow → Code
alone place (gave (Held v) locals) = value v locals
alone place (gave Unset locals) = fault Undefined place
alone place (next locals) = fault Undefined place
alone place (returned slot locals) = fault Undefined place
alone place (exited v from locals) = fault UncaughtExit from

-- who evaluates without a thread asks for each need as such
abbrev pub of_evaluator : SpecTree → Setting
of_evaluator spec = record { spec = spec; asker = evaluator }

-- what comes of an expression that stands here, without answers
abbrev pub guard_outcome : SpecTree → Here → ExprTree → Outcome Flow Query Answer Fault
guard_outcome spec here tree =
    run (meaning (plan_of (of_evaluator spec)) spent) (part (expr_in (at here []) tree) (alone (expr_place tree))) [] guard_units

-- An invariant holds where it is true. One that reads a variable that is unset, which is then asked for, counts as held.
abbrev pub is_kept : Outcome Flow Query Answer Fault → Bool
is_kept (gives (gave (Held (boolean true)) locals) answers units) = true
is_kept (needs (needed (reads me var))) = true
is_kept _ = false

abbrev pub holds : SpecTree → Name → Holding → Invariant → Bool
holds spec own holding i = is_kept (guard_outcome spec (guarding own holding i.class) i.condition)

-- ---- all of them

abbrev pub all_hold : SpecTree → Name → Holding → List Invariant → Bool
all_hold spec own holding [] = true
all_hold spec own holding (i ∷ is) = holds spec own holding i && all_hold spec own holding is

abbrev pub kept_by : SpecTree → Name → Holding → Option ℕ → Bool
kept_by spec own holding None = true
kept_by spec own holding (Some k) = all_hold spec own holding (invariants spec k)

-- whether all invariants of an object of the class hold where its variables hold this
abbrev pub keeps : SpecTree → Name → Holding → Bool
keeps spec own holding = kept_by spec own holding (class_number spec own)

-- slots in the order of a layout, as what its variables hold
abbrev pub holding_of : List VarRef → List Slot → Holding
holding_of (var ∷ vars) (slot ∷ slots) = (var, slot) ∷ holding_of vars slots
holding_of _ _ = []
