-- Assignments keep the rules of journals: what is written is known.
use Rattle.std.proofs.Common.{◌++◌, ◌∷◌, [], if◌then◌else◌, Bool, Err, IfOk, IfSome, List, None, Ok, Option, Some, false, refl, reverse, true, ℕ}
use Rattle.std.specs.List.{AllByRecursion as Each}
use Rattle.vdm_kinds.specs.declared.member.VarRef.{VarRef}
use Rattle.vdm_kinds.specs.declared.name.Name.{Name}
use Rattle.vdm_kinds.specs.declared.operator.Operator.TheVariants.{LookUp, Override}
use Rattle.vdm_kinds.specs.declared.place.Place.{Place}
use Rattle.vdm_kinds.specs.declared.run_fault.RunFault.TheVariants.{InstanceInvariant, Undefined}
use Rattle.vdm_values.specs.declared.slot.Slot.{Slot}
use Rattle.vdm_values.specs.declared.slot.Slot.TheVariants.{Held as Holds}
use Rattle.abstract_syntax.specs.Classes.{FieldTree, SpecTree, VariableTree, is_same_name}
use Rattle.abstract_syntax.specs.Types.{TypeTree}
use Rattle.abstract_syntax.specs.Values.{ValueTree, ValueTrees, map_of, no_pairs, one_pair, record_of, value_list, value_trees}
use Rattle.abstract_syntax.specs.Expressions.{ExprTree}
use Rattle.abstract_syntax.specs.Statements.{AssignmentTree, TargetStepTree, TargetTree, element_at, field_of, variable, variable_of_class}
use Rattle.value_operators.specs.Outcomes.{Outcome}
use Rattle.value_parts.specs.Objects.{EachObject, EachObjectIn}
use Rattle.value_parts.proofs.Everywhere.{each_append}
use Rattle.value_parts.proofs.Gathered.{gathered, listed, sized_keeps}
use Rattle.value_parts.proofs.OperatorObjects.{applied_two_keeps}
use Rattle.run_journal.specs.declared.deed.Deed.TheVariants as deed
use Rattle.run_journal.specs.declared.entry.Entry.{Entry}
use Rattle.run_journal.specs.declared.question.Question.TheVariants.{Write}
use Rattle.run_journal.specs.declared.thread.Thread.TheVariants.{Main}
use Rattle.run_journal.specs.declared.write.Write.{Write as Pair}
use Rattle.run_journal.specs.Made.{entry}
use Rattle.plans.specs.Plans.{ask}
use Rattle.vdm_legal.proofs.Known.{IsKnown, IsKnownPair, IsKnownSlot, IsThere, each_wider}
use Rattle.vdm_legal.proofs.Sanity.{IsQuiet, IsWithin, quiet-sane, quiet-within, within-self}
use Rattle.vdm_legal.proofs.Taken.{write_answer}
use Rattle.node_meaning.specs.Envs.{Here, Locals, local_named, no_nest}
use Rattle.node_meaning.specs.Matching.{exprs_of}
use Rattle.node_meaning.specs.Names.{variable_definition, variable_here, variable_in}
use Rattle.node_meaning.specs.Needs.{slot_in}
use Rattle.node_meaning.specs.Records.{field_value, fields_of}
use Rattle.node_meaning.specs.Tasks.{Code, Declared, gave, next, noted, with_value}
use Rattle.stmt_meaning.specs.Targets.{Goal, and_then, assigned, changed_by, changed_typed, declared_type, defined_goal, element_replaced, field_among, field_replaced, found_goal, goal_changed, goal_given, goal_of, goal_read, goal_typed, indices, joined_goal, local_read, named_goal, object_of_first, record_again, set_first, set_newest, stepped_into, stored, target_steps, to_local, to_variable, together, variable_goal, write_of, written, written_together}
use Rattle.vdm_meaning.proofs.Rules.{AreKnown, HasObject, IsOn, IsSafe, MayLeave, MayRun}
use Rattle.vdm_meaning.proofs.Parts.{EachKnown, GoesWith, IsAt, at-among, at-later, goes-later, is_on-on, may-fail, object-on, safe-evaluated, safe-finish, safe-with_value, value-on, values-on}
use Rattle.vdm_meaning.proofs.Asking.{safe-Write}
use Rattle.vdm_meaning.proofs.Strict.{safe-collected}
use Rattle.vdm_meaning.proofs.Fitting.{safe-typed}
use Rattle.vdm_meaning.proofs.Records.{field_value_keeps, with_field_keeps}
use Rattle.vdm_meaning.proofs.Names.{each_reverse, local-known}
use Rattle.vdm_meaning.proofs.Homes.{variable_here-there}
use Rattle.vdm_meaning.proofs.Reading.{safe-read}

-- ---- what an assignment writes to is there

-- the object whose variable it is
abbrev IsGoalThere : SpecTree → List Entry → Goal → Type 0
IsGoalThere spec entries (to_local name t) = Unit {0}
IsGoalThere spec entries (to_variable me var t) = IsOn spec entries me

goal-on : (spec : SpecTree) (now later : List Entry) → IsWithin spec now later → (goal : Goal) → IsGoalThere spec now goal → IsGoalThere spec later goal
goal-on spec now later w (to_local name t) there = tt
goal-on spec now later w (to_variable me var t) there = is_on-on now later w me there

module _ (spec : SpecTree) (now : List Entry) where
  defined-there : (me : ℕ) (var : VarRef) (found : Option VariableTree) → IsOn spec now me → IfSome (defined_goal me var found) (IsGoalThere spec now)
  defined-there me var None there = tt
  defined-there me var (Some definition) there = there

  variable-there : (object : Option ℕ) (var : VarRef) → HasObject spec now object → IfSome (variable_goal spec object var) (IsGoalThere spec now)
  variable-there None var there = tt
  variable-there (Some object) var there = defined-there object var (variable_definition spec var) there

  named-there : (t : Option TypeTree) (name : Name) (other : Option Goal) → IfSome other (IsGoalThere spec now) → IfSome (named_goal t name other) (IsGoalThere spec now)
  named-there (Some t) name other there = tt
  named-there None name other there = there

  module _ (here : Here) (locals : Locals) (may : MayRun spec now here locals) where
    found-there : (found : Option VarRef) → IfSome (found_goal spec here found) (IsGoalThere spec now)
    found-there None = tt
    found-there (Some var) = variable-there (variable_here spec here var) var (variable_here-there spec now here may.classes may.me var)

    goal-there : (declared : Declared) (target : TargetTree) → IfSome (goal_of spec here declared target) (IsGoalThere spec now)
    goal-there declared (variable name steps place) =
        named-there (declared_type declared name) name (found_goal spec here (variable_in spec here.scope name)) (found-there (variable_in spec here.scope name))
    goal-there declared (variable_of_class class name name_place steps place) = found-there (variable_in spec (Some class) name)

-- ---- a value with a part changed has no object but those of the values

module _ (P : ℕ → Name → Type 0) where
  and_then_keeps : (found : Outcome) (f : ValueTree → Outcome) → IfOk found (EachObject P) → ((v : ValueTree) → EachObject P v → IfOk (f v) (EachObject P)) → IfOk (and_then found f) (EachObject P)
  and_then_keeps (Ok v) f h goes = goes v h
  and_then_keeps (Err kind) f h goes = tt

  record_again_keeps : (class type : Name) (found : Option (List ValueTree)) → IfSome found (Each (EachObject P)) → IfOk (record_again class type found) (EachObject P)
  record_again_keeps class type None h = tt
  record_again_keeps class type (Some vs) h = sized_keeps P (record_of class type (value_trees vs)) (gathered P vs h)

  field_among_keeps : (name : Name) (v : ValueTree) (held : ValueTrees) (fields : Option (List FieldTree)) → EachObject P v → EachObjectIn P held → IfSome (field_among name v held fields) (Each (EachObject P))
  field_among_keeps name v held None h k = tt
  field_among_keeps name v held (Some fields) h k = with_field_keeps P name v fields (value_list held) h (listed P held k)

  field_replaced_keeps : (spec : SpecTree) (name class type : Name) (held : ValueTrees) (v : ValueTree) → EachObjectIn P held → EachObject P v → IfOk (field_replaced spec name class type held v) (EachObject P)
  field_replaced_keeps spec name class type held v h k =
      record_again_keeps class type (field_among name v held (fields_of spec class type)) (field_among_keeps name v held (fields_of spec class type) k h)

  stepped_into_keeps : (steps : List TargetStepTree) (old index : ValueTree) → EachObject P old → EachObject P index → IfOk (stepped_into steps old index) (EachObject P)
  stepped_into_keeps [] old index h k = h
  stepped_into_keeps (step ∷ steps) old index h k = applied_two_keeps P LookUp old index h k

  element_replaced_keeps : (old index v : ValueTree) → EachObject P old → EachObject P index → EachObject P v → IfOk (element_replaced old index v) (EachObject P)
  element_replaced_keeps old index v h k l = applied_two_keeps P Override old (map_of (one_pair index v no_pairs)) h (k, l, tt)

  changed_by_keeps : (spec : SpecTree) (steps : List TargetStepTree) (vs : List ValueTree) (old : ValueTree) → Each (EachObject P) vs → EachObject P old → IfOk (changed_by spec steps vs old) (EachObject P)
  changed_by_keeps spec [] (v ∷ []) old h k = h.0
  changed_by_keeps spec (field_of name name_place place ∷ steps) vs (record_of class type held) h k =
      and_then_keeps (and_then (field_value spec name class type held) (changed_by spec steps vs)) (field_replaced spec name class type held)
      (and_then_keeps (field_value spec name class type held) (changed_by spec steps vs) (field_value_keeps P spec name class type held k)
      (λ part l. changed_by_keeps spec steps vs part h l))
      (λ v l. field_replaced_keeps spec name class type held v k l)
  changed_by_keeps spec (element_at index place ∷ steps) (i ∷ vs) old h k =
      and_then_keeps (and_then (stepped_into steps old i) (changed_by spec steps vs)) (element_replaced old i)
      (and_then_keeps (stepped_into steps old i) (changed_by spec steps vs) (stepped_into_keeps steps old i k h.0)
      (λ part l. changed_by_keeps spec steps vs part h.1 l))
      (λ v l. element_replaced_keeps old i v k h.0 l)
  changed_by_keeps spec _ _ old h k = tt

-- ---- local variables

set_first-known : (spec : SpecTree) (now : List Entry) (name : Name) (slot : Slot) (locals : Locals) → IsKnownSlot spec now slot → AreKnown spec now locals → AreKnown spec now (set_first name slot locals)
set_first-known spec now name slot [] h k = tt
set_first-known spec now name slot (l ∷ locals) h k = by (is_same_name name l.0) (set_first-known spec now name slot locals h k.1)
  where
    by : (b : Bool) → AreKnown spec now (set_first name slot locals) → AreKnown spec now (if b then (l.0, slot) ∷ locals else l ∷ set_first name slot locals)
    by true rest = (h, k.1)
    by false rest = (k.0, rest)

set_newest-known : (spec : SpecTree) (now : List Entry) (name : Name) (slot : Slot) (locals : Locals) → IsKnownSlot spec now slot → AreKnown spec now locals → AreKnown spec now (set_newest name slot locals)
set_newest-known spec now name slot locals h k =
    let Q : Name × Slot → Type 0 = λ l. IsKnownSlot spec now l.1 in
    each_reverse Q (set_first name slot (reverse locals)) (set_first-known spec now name slot (reverse locals) h (each_reverse Q locals k))

-- ---- writes

write-quiet : (pairs : List Pair) (refused : Bool) → IsQuiet (deed.Write pairs refused)
write-quiet pairs refused = λ name. (refl, refl, refl)

abbrev AreKnownPairs : SpecTree → List Entry → List Pair → Type 0
AreKnownPairs spec entries = Each (IsKnownPair spec entries)

pairs-on : (spec : SpecTree) (now later : List Entry) → IsWithin spec now later → (pairs : List Pair) → AreKnownPairs spec now pairs → AreKnownPairs spec later pairs
pairs-on spec now later w = each_wider (IsKnownPair spec now) (IsKnownPair spec later) (λ (pair : Pair). value-on now later w pair.value)

module _ (spec : SpecTree) (first : List Entry) (here : Here) (place : Place) where
  safe-written : (now : List Entry) (refused : Bool) (locals : Locals) → IsAt spec first now here locals → IsSafe spec first now (written place locals (write_answer refused))
  safe-written now true locals is_at = may-fail spec InstanceInvariant place is_at.may
  safe-written now false locals is_at = safe-finish spec (next locals) is_at is_at.may.known

  safe-write : (now : List Entry) (me : ℕ) (pairs : List Pair) (locals : Locals) → IsAt spec first now here locals → IsOn spec now me → AreKnownPairs spec now pairs → IsSafe spec first now (ask (noted (Write me pairs)) (written place locals))
  safe-write now me pairs locals is_at there known =
      safe-Write spec (MayLeave spec) first now (written place locals) me pairs (record { ready = there.0; sane = is_at.may.sane; turn = there.1 })
      (λ refused. safe-written (now ++ entry Main me (deed.Write pairs refused) ∷ []) refused locals
      (at-later is_at (quiet-within now me (deed.Write pairs refused) (write-quiet pairs refused) spec there.1)
      (quiet-sane now me (deed.Write pairs refused) (write-quiet pairs refused) is_at.may.sane known refl)))

  safe-stored : (now : List Entry) (goal : Goal) (v : ValueTree) (locals : Locals) → IsAt spec first now here locals → IsGoalThere spec now goal → IsKnown spec now v → IsSafe spec first now (stored place goal v locals)
  safe-stored now (to_local name t) v locals is_at there known =
      safe-finish spec (next (set_newest name (Holds v) locals)) is_at (set_newest-known spec now name (Holds v) locals known is_at.may.known)
  safe-stored now (to_variable me var t) v locals is_at there known = safe-write now me (write_of var v ∷ []) locals is_at there (known, tt)

  -- ---- the value that it gets

  safe-goal_typed : (now : List Entry) (goal : Goal) (further : ValueTree → Locals → Code) (v : ValueTree) (locals : Locals) → IsAt spec first now here locals → IsKnown spec now v → GoesWith (IsKnown spec) spec first here now further → IsSafe spec first now (goal_typed spec here place goal further v locals)
  safe-goal_typed now (to_local name t) further v locals is_at known goes = safe-typed spec first here now locals no_nest here.scope t place further v is_at known goes
  safe-goal_typed now (to_variable me var t) further v locals is_at known goes = safe-typed spec first here now locals no_nest (Some var.class) t place further v is_at known goes

  -- what a variable holds
  safe-slot : (now : List Entry) (slot : Slot) (further : ValueTree → Locals → Code) (locals : Locals) → IsAt spec first now here locals → IsKnownSlot spec now slot → GoesWith (IsKnown spec) spec first here now further → IsSafe spec first now (with_value place further (gave slot locals))
  safe-slot now slot further locals is_at known goes =
      safe-with_value spec place further (gave slot locals) is_at (known, is_at.may.known) (λ v after also others.
      goes now v after (within-self now) (at-among is_at after others) also)

  safe-local_read : (now : List Entry) (found : Option Slot) (further : ValueTree → Locals → Code) (locals : Locals) → IsAt spec first now here locals → IfSome found (IsKnownSlot spec now) → GoesWith (IsKnown spec) spec first here now further → IsSafe spec first now (local_read place further found locals)
  safe-local_read now None further locals is_at known goes = may-fail spec Undefined place is_at.may
  safe-local_read now (Some slot) further locals is_at known goes = safe-slot now slot further locals is_at known goes

  safe-goal_read : (now : List Entry) (goal : Goal) (further : ValueTree → Locals → Code) (locals : Locals) → IsAt spec first now here locals → IsGoalThere spec now goal → GoesWith (IsKnown spec) spec first here now further → IsSafe spec first now (goal_read place goal further locals)
  safe-goal_read now (to_local name t) further locals is_at there goes =
      safe-local_read now (local_named locals name) further locals is_at (local-known spec now locals name is_at.may.known) goes
  safe-goal_read now (to_variable me var t) further locals is_at there goes =
      safe-read spec first now here locals is_at me var (λ answer. with_value place further (gave (slot_in answer) locals)) there (λ later slot w at_later known.
      safe-slot later slot further locals at_later known (goes-later (IsKnown spec) spec first here now later further w goes))

  safe-changed_typed : (now : List Entry) (goal : Goal) (further : ValueTree → Locals → Code) (changed : Outcome) (locals : Locals) → IsAt spec first now here locals → IfOk changed (IsKnown spec now) → GoesWith (IsKnown spec) spec first here now further → IsSafe spec first now (changed_typed spec here place goal further changed locals)
  safe-changed_typed now goal further (Ok v) locals is_at known goes = safe-goal_typed now goal further v locals is_at known goes
  safe-changed_typed now goal further (Err kind) locals is_at known goes = may-fail spec kind place is_at.may

  safe-goal_changed : (now : List Entry) (goal : Goal) (steps : List TargetStepTree) (further : ValueTree → Locals → Code) (vs : List ValueTree) (locals : Locals) → IsAt spec first now here locals → IsGoalThere spec now goal → EachKnown spec now vs → GoesWith (IsKnown spec) spec first here now further → IsSafe spec first now (goal_changed spec here place goal steps further vs locals)
  safe-goal_changed now goal steps further vs locals is_at there known goes =
      safe-goal_read now goal (λ old. changed_typed spec here place goal further (changed_by spec steps vs old)) locals is_at there (λ later old after w at_later also.
      safe-changed_typed later goal further (changed_by spec steps vs old) after at_later
      (changed_by_keeps (IsThere spec later) spec steps vs old (values-on now later w vs known) also) (goes-later (IsKnown spec) spec first here now later further w goes))

  safe-goal_given : (now : List Entry) (goal : Goal) (steps : List TargetStepTree) (tree : ExprTree) (further : ValueTree → Locals → Code) (locals : Locals) → IsAt spec first now here locals → IsGoalThere spec now goal → GoesWith (IsKnown spec) spec first here now further → IsSafe spec first now (goal_given spec here place goal steps tree further locals)
  safe-goal_given now goal [] tree further locals is_at there goes =
      safe-evaluated spec first now here locals tree place (goal_typed spec here place goal further) is_at (λ later v after w at_later known.
      safe-goal_typed later goal further v after at_later known (goes-later (IsKnown spec) spec first here now later further w goes))
  safe-goal_given now goal (step ∷ steps) tree further locals is_at there goes =
      safe-collected spec first now here place (exprs_of (indices (step ∷ steps) ++ tree ∷ [])) [] (goal_changed spec here place goal (step ∷ steps) further) locals is_at tt (λ later vs after w at_later known.
      safe-goal_changed later goal (step ∷ steps) further vs after at_later (goal-on spec now later w goal there) known (goes-later (IsKnown spec) spec first here now later further w goes))

  pub safe-assigned : (now : List Entry) (goal : Option Goal) (steps : List TargetStepTree) (tree : ExprTree) (locals : Locals) → IsAt spec first now here locals → IfSome goal (IsGoalThere spec now) → IsSafe spec first now (assigned spec here place goal steps tree locals)
  safe-assigned now None steps tree locals is_at there = may-fail spec Undefined place is_at.may
  safe-assigned now (Some goal) steps tree locals is_at there =
      safe-goal_given now goal steps tree (stored place goal) locals is_at there (λ later v after w at_later known.
      safe-stored later goal v after at_later (goal-on spec now later w goal there) known)

  pub safe-assign : (now : List Entry) (declared : Declared) (target : TargetTree) (tree : ExprTree) (locals : Locals) → IsAt spec first now here locals → IsSafe spec first now (assigned spec here place (goal_of spec here declared target) (target_steps target) tree locals)
  safe-assign now declared target tree locals is_at =
      safe-assigned now (goal_of spec here declared target) (target_steps target) tree locals is_at (goal-there spec now here locals is_at.may declared target)

  -- ---- several at once

  safe-written_together : (now : List Entry) (object : Option ℕ) (pairs : List Pair) (locals : Locals) → IsAt spec first now here locals → HasObject spec now object → AreKnownPairs spec now pairs → IsSafe spec first now (written_together place object pairs locals)
  safe-written_together now None pairs locals is_at there known = may-fail spec Undefined place is_at.may
  safe-written_together now (Some me) pairs locals is_at there known = safe-write now me pairs locals is_at there known

  -- what is done with the object and the write of one variable keeps the rules
  abbrev Joins : List Entry → (ℕ → Pair → Locals → Code) → Type 0
  Joins now further =
      (later : List Entry) (me : ℕ) (pair : Pair) (locals : Locals) → IsWithin spec now later → IsAt spec first later here locals → IsOn spec later me → IsKnownPair spec later pair → IsSafe spec first later (further me pair locals)

  safe-joined_goal : (now : List Entry) (goal : Option Goal) (steps : List TargetStepTree) (tree : ExprTree) (further : ℕ → Pair → Locals → Code) (locals : Locals) → IsAt spec first now here locals → IfSome goal (IsGoalThere spec now) → Joins now further → IsSafe spec first now (joined_goal spec here place goal steps tree further locals)
  safe-joined_goal now (Some (to_variable me var t)) steps tree further locals is_at there joins =
      safe-goal_given now (to_variable me var t) steps tree (λ v. further me (write_of var v)) locals is_at there (λ later v after w at_later known.
      joins later me (write_of var v) after w at_later (is_on-on now later w me there) known)
  safe-joined_goal now _ steps tree further locals is_at there joins = may-fail spec Undefined place is_at.may

  first-there : (now : List Entry) (object : Option ℕ) (me : ℕ) → HasObject spec now object → IsOn spec now me → HasObject spec now (object_of_first object me)
  first-there now None me there on = on
  first-there now (Some first_object) me there on = there

  pub safe-together : (assignments : List AssignmentTree) (now : List Entry) (object : Option ℕ) (pairs : List Pair) (locals : Locals) → IsAt spec first now here locals → HasObject spec now object → AreKnownPairs spec now pairs → IsSafe spec first now (together spec here place assignments object pairs locals)
  safe-together [] now object pairs locals is_at there known = safe-written_together now object pairs locals is_at there known
  safe-together (a ∷ assignments) now object pairs locals is_at there known =
      safe-joined_goal now (goal_of spec here [] a.target) (target_steps a.target) a.value (λ me pair. together spec here place assignments (object_of_first object me) (pairs ++ pair ∷ [])) locals is_at
      (goal-there spec now here locals is_at.may [] a.target) (λ later me pair after w at_later on also.
      safe-together assignments later (object_of_first object me) (pairs ++ pair ∷ []) after at_later (first-there later object me (object-on now later w object there) on)
      (each_append (IsKnownPair spec later) pairs (pair ∷ []) (pairs-on spec now later w pairs known) (also, tt)))
