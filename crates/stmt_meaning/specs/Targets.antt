-- Assignments: what they write to, the value that it gets, and the write.
use Rattle.std.specs.Prelude.{ℕ, List, [], ◌∷◌, ◌++◌, reverse, if◌then◌else◌, Option, Some, None, option_map, Ok, Err}
use Rattle.std.specs.List.{find}
use Rattle.vdm_kinds.specs.declared.member.VarRef.{VarRef}
use Rattle.vdm_kinds.specs.declared.name.Name.{Name}
use Rattle.vdm_kinds.specs.declared.operator.Operator.TheVariants.{LookUp, Override}
use Rattle.vdm_kinds.specs.declared.place.Place.{Place}
use Rattle.vdm_kinds.specs.declared.run_fault.RunFault.TheVariants.{InstanceInvariant, TypeFault, Undefined}
use Rattle.vdm_values.specs.declared.slot.Slot.{Slot}
use Rattle.vdm_values.specs.declared.slot.Slot.TheVariants.{Held}
use Rattle.abstract_syntax.specs.Types.{TypeTree}
use Rattle.abstract_syntax.specs.Values.{ValueTree, ValueTrees, record_of, map_of, one_pair, no_pairs, value_list, value_trees}
use Rattle.abstract_syntax.specs.Expressions.{ExprTree}
use Rattle.abstract_syntax.specs.Statements.{TargetStepTree, field_of, element_at, TargetTree, variable, variable_of_class, AssignmentTree}
use Rattle.abstract_syntax.specs.Classes.{FieldTree, VariableTree, SpecTree, is_same_name}
use Rattle.run_journal.specs.declared.answer.Answer.{Answer}
use Rattle.run_journal.specs.declared.answer.Answer.TheVariants.{Refused}
use Rattle.run_journal.specs.declared.question.Question.TheVariants.{Read, Write}
use Rattle.run_journal.specs.declared.write.Write.{Write as Pair}
use Rattle.value_operators.specs.Operators.{applied_two}
use Rattle.value_operators.specs.Outcomes.{Outcome, sized}
use Rattle.plans.specs.Plans.{finish, ask}
use Rattle.node_meaning.specs.Envs.{Locals, no_nest, Here, local_named}
use Rattle.node_meaning.specs.Fitting.{typed}
use Rattle.node_meaning.specs.Matching.{exprs_of}
use Rattle.node_meaning.specs.Names.{variable_in, variable_definition, variable_here}
use Rattle.node_meaning.specs.Needs.{slot_in}
use Rattle.node_meaning.specs.Records.{field_value, fields_of, with_field}
use Rattle.node_meaning.specs.Strict.{collected}
use Rattle.node_meaning.specs.Tasks.{Declared, gave, next, noted, Code, fault, with_value, evaluated}

-- ---- what an assignment writes to

pub data Goal : Type 0 where
  -- a local variable, with its type
  to_local : Name → TypeTree → Goal
  -- a variable of the object of this number, with its type
  to_variable : ℕ → VarRef → TypeTree → Goal

-- the type of the newest local variable of the name that is declared
abbrev pub declared_type : Declared → Name → Option TypeTree
declared_type declared name = option_map (λ (d : Name × TypeTree). d.1) (find (λ (d : Name × TypeTree). is_same_name name d.0) (reverse declared))

abbrev pub defined_goal : ℕ → VarRef → Option VariableTree → Option Goal
defined_goal me var None = None
defined_goal me var (Some definition) = Some (to_variable me var definition.declared)

-- a variable on the object on which it stands, if there is one
abbrev pub variable_goal : SpecTree → Option ℕ → VarRef → Option Goal
variable_goal spec None var = None
variable_goal spec (Some object) var = defined_goal object var (variable_definition spec var)

-- ... where there is a variable of the name
abbrev pub found_goal : SpecTree → Here → Option VarRef → Option Goal
found_goal spec here None = None
found_goal spec here (Some var) = variable_goal spec (variable_here spec here var) var

-- a local variable hides those of the class
abbrev pub named_goal : Option TypeTree → Name → Option Goal → Option Goal
named_goal (Some t) name other = Some (to_local name t)
named_goal None name other = other

abbrev pub goal_of : SpecTree → Here → Declared → TargetTree → Option Goal
goal_of spec here declared (variable name steps place) =
    named_goal (declared_type declared name) name (found_goal spec here (variable_in spec here.scope name))
goal_of spec here declared (variable_of_class class name name_place steps place) =
    found_goal spec here (variable_in spec (Some class) name)

abbrev pub target_steps : TargetTree → List TargetStepTree
target_steps (variable name steps place) = steps
target_steps (variable_of_class class name name_place steps place) = steps

-- ---- the value with a part changed

-- the expressions of the steps, in order
abbrev pub indices : List TargetStepTree → List ExprTree
indices [] = []
indices (field_of name name_place place ∷ steps) = indices steps
indices (element_at index place ∷ steps) = index ∷ indices steps

abbrev pub and_then : Outcome → (ValueTree → Outcome) → Outcome
and_then (Ok v) further = further v
and_then (Err kind) further = Err kind

abbrev pub record_again : Name → Name → Option (List ValueTree) → Outcome
record_again class type None = Err TypeFault
record_again class type (Some vs) = sized (record_of class type (value_trees vs))

abbrev pub field_among : Name → ValueTree → ValueTrees → Option (List FieldTree) → Option (List ValueTree)
field_among name v held None = None
field_among name v held (Some fields) = with_field name v fields (value_list held)

-- the record with this value in the field
abbrev pub field_replaced : SpecTree → Name → Name → Name → ValueTrees → ValueTree → Outcome
field_replaced spec name class type held v = record_again class type (field_among name v held (fields_of spec class type))

-- the map or the sequence with this value at the index: what `++` gives
abbrev pub element_replaced : ValueTree → ValueTree → ValueTree → Outcome
element_replaced old index v = applied_two Override old (map_of (one_pair index v no_pairs))

-- what stands at the index, where further steps lead into it
abbrev pub stepped_into : List TargetStepTree → ValueTree → ValueTree → Outcome
stepped_into [] old index = Ok old
stepped_into (step ∷ steps) old index = applied_two LookUp old index

-- The value behind the steps: `vs` has the indices and then the value for the part to which the last step leads.
abbrev pub changed_by : SpecTree → List TargetStepTree → List ValueTree → ValueTree → Outcome
changed_by spec [] (v ∷ []) old = Ok v
changed_by spec (field_of name name_place place ∷ steps) vs (record_of class type held) =
    and_then (and_then (field_value spec name class type held) (changed_by spec steps vs)) (field_replaced spec name class type held)
changed_by spec (element_at index place ∷ steps) (i ∷ vs) old =
    and_then (and_then (stepped_into steps old i) (changed_by spec steps vs)) (element_replaced old i)
changed_by spec _ _ old = Err TypeFault

-- ---- the value that it gets

-- tested against the type; no statement stands inside a test of a type
abbrev pub goal_typed : SpecTree → Here → Place → Goal → (ValueTree → Locals → Code) → ValueTree → Locals → Code
goal_typed spec here place (to_local name t) further v locals = typed spec no_nest here.scope t place further v locals
goal_typed spec here place (to_variable me var t) further v locals = typed spec no_nest (Some var.class) t place further v locals

abbrev pub local_read : Place → (ValueTree → Locals → Code) → Option Slot → Locals → Code
local_read place further None locals = fault Undefined place
local_read place further (Some slot) locals = with_value place further (gave slot locals)

-- what the variable has; an unset one has no value
abbrev pub goal_read : Place → Goal → (ValueTree → Locals → Code) → Locals → Code
goal_read place (to_local name t) further locals = local_read place further (local_named locals name) locals
goal_read place (to_variable me var t) further locals =
    ask (noted (Read me var)) (λ answer. with_value place further (gave (slot_in answer) locals))

abbrev pub changed_typed : SpecTree → Here → Place → Goal → (ValueTree → Locals → Code) → Outcome → Locals → Code
changed_typed spec here place goal further (Ok v) locals = goal_typed spec here place goal further v locals
changed_typed spec here place goal further (Err kind) locals = fault kind place

-- behind the indices and the value the variable is read, and its value changed
abbrev pub goal_changed : SpecTree → Here → Place → Goal → List TargetStepTree → (ValueTree → Locals → Code) → List ValueTree → Locals → Code
goal_changed spec here place goal steps further vs locals =
    goal_read place goal (λ old. changed_typed spec here place goal further (changed_by spec steps vs old)) locals

-- what a goal gets, and what is done with it: the indices are evaluated first, and then the expression
abbrev pub goal_given : SpecTree → Here → Place → Goal → List TargetStepTree → ExprTree → (ValueTree → Locals → Code) → Locals → Code
goal_given spec here place goal [] tree further locals = evaluated here locals tree place (goal_typed spec here place goal further)
goal_given spec here place goal (step ∷ steps) tree further locals =
    collected here place (exprs_of (indices (step ∷ steps) ++ tree ∷ [])) [] (goal_changed spec here place goal (step ∷ steps) further) locals

-- ---- the write

-- a write that was refused breaks an instance invariant
abbrev pub written : Place → Locals → Answer → Code
written place locals Refused = fault InstanceInvariant place
written place locals _ = finish (next locals)

abbrev pub write_of : VarRef → ValueTree → Pair
write_of var v = record { var = var; value = v }

-- the locals with another slot for the newest one of the name: from the newest on
abbrev pub set_first : Name → Slot → Locals → Locals
set_first name slot [] = []
set_first name slot (l ∷ locals) = if is_same_name name l.0 then (l.0, slot) ∷ locals else l ∷ set_first name slot locals

abbrev pub set_newest : Name → Slot → Locals → Locals
set_newest name slot locals = reverse (set_first name slot (reverse locals))

abbrev pub stored : Place → Goal → ValueTree → Locals → Code
stored place (to_local name t) v locals = finish (next (set_newest name (Held v) locals))
stored place (to_variable me var t) v locals = ask (noted (Write me (write_of var v ∷ []))) (written place locals)

-- an assignment to what there is
abbrev pub assigned : SpecTree → Here → Place → Option Goal → List TargetStepTree → ExprTree → Locals → Code
assigned spec here place None steps tree locals = fault Undefined place
assigned spec here place (Some goal) steps tree locals = goal_given spec here place goal steps tree (stored place goal) locals

-- ---- several at once

-- the object of the first variable is that of all
abbrev pub object_of_first : Option ℕ → ℕ → Option ℕ
object_of_first None object = Some object
object_of_first (Some first) object = Some first

-- all variables of one object in one write
abbrev pub written_together : Place → Option ℕ → List Pair → Locals → Code
written_together place None pairs locals = fault Undefined place
written_together place (Some me) pairs locals = ask (noted (Write me pairs)) (written place locals)

-- the variable gets its value with the others; a local one never does
abbrev pub joined_goal : SpecTree → Here → Place → Option Goal → List TargetStepTree → ExprTree
    → (ℕ → Pair → Locals → Code) → Locals → Code
joined_goal spec here place (Some (to_variable me var t)) steps tree further locals =
    goal_given spec here place (to_variable me var t) steps tree (λ v. further me (write_of var v)) locals
joined_goal spec here place _ steps tree further locals = fault Undefined place

-- `atomic`: assignment by assignment, and then one write
abbrev pub together : SpecTree → Here → Place → List AssignmentTree → Option ℕ → List Pair → Locals → Code
together spec here place [] object pairs locals = written_together place object pairs locals
together spec here place (a ∷ assignments) object pairs locals =
    joined_goal spec here place (goal_of spec here [] a.target) (target_steps a.target) a.value
    (λ me pair. together spec here place assignments (object_of_first object me) (pairs ++ pair ∷ [])) locals
