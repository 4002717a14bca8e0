-- What each node of an expression does, one line a kind.
use Rattle.std.specs.Prelude.{ℕ, zero, suc, Bool, true, false, [], ◌∷◌, ◌++◌, if◌then◌else◌, List, length, Option, Some, None, Result, Ok, Err}
use Rattle.vdm_kinds.specs.NameList.{io}
use Rattle.vdm_kinds.specs.declared.member.OpRef.{OpRef}
use Rattle.vdm_kinds.specs.declared.member.VarRef.{VarRef}
use Rattle.vdm_kinds.specs.declared.name.Name.{Name}
use Rattle.vdm_kinds.specs.declared.operator.Operator.{Operator}
use Rattle.vdm_kinds.specs.declared.operator.Operator.TheVariants.{Interval, LookUp}
use Rattle.vdm_kinds.specs.declared.place.Place.{Place}
use Rattle.vdm_kinds.specs.declared.sign.Sign.{Sign}
use Rattle.vdm_kinds.specs.declared.sign.Sign.TheVariants.{And, Or, Implies}
use Rattle.vdm_kinds.specs.declared.run_fault.RunFault.{RunFault}
use Rattle.vdm_kinds.specs.declared.run_fault.RunFault.TheVariants.{NoMatch, TypeFault, Undefined}
use Rattle.vdm_kinds.specs.Signs.{sign_operator}
use Rattle.vdm_values.specs.declared.slot.Slot.{Slot}
use Rattle.vdm_values.specs.declared.slot.Slot.TheVariants.{Unset, Held as Holds}
use Rattle.abstract_syntax.specs.Classes.{SpecTree, is_same_name}
use Rattle.abstract_syntax.specs.Expressions.{
  ExprTree,
  literal,
  named,
  qualified,
  old_value,
  self_object,
  current_time,
  undefined,
  result_value,
  bracketed,
  prefixed,
  joined,
  set_enumeration,
  set_range,
  set_comprehension,
  empty_map,
  map_enumeration,
  map_comprehension,
  sequence_enumeration,
  sequence_comprehension,
  make_tuple,
  make_token,
  make_record,
  modify_record,
  is_of_type,
  is_of_named,
  is_of_basic,
  is_of_class,
  is_of_base_class,
  same_class,
  same_base_class,
  create,
  apply,
  subsequence,
  select,
  select_of_class,
  select_part,
  let_in,
  let_be,
  def_in,
  if_else,
  cases_of,
  for_all,
  exists_some,
  exists_one,
  iota_of,
  ExprTrees,
  no_exprs,
  one_expr,
  MaybeExpr,
  left_out,
  given_expr,
  DefinedTrees,
  no_defined,
  one_defined,
  BranchTrees,
  no_branches,
  one_branch,
  CaseTrees,
  no_cases,
  one_case,
  bind_in,
  no_binds,
  one_bind,
  PatternTrees,
  no_patterns,
  one_pattern,
  expr_place,
}
use Rattle.abstract_syntax.specs.Types.{TypeTree, basic_type, named_type}
use Rattle.abstract_syntax.specs.Values.{ValueTree, boolean, character, map_of, no_pairs, no_values, object, one_value, record_of, sequence}
use Rattle.class_meaning.specs.Classes.{println}
use Rattle.pattern_meaning.specs.Ways.{literal_value}
use Rattle.value_operators.specs.Outcomes.{sized}
use Rattle.plans.specs.Plans.{become, part}
use Rattle.node_meaning.specs.ClassTests.{ClassTest, in_class, in_base_class, one_class, one_base_class, class_told}
use Rattle.node_meaning.specs.Choosing.{collects, for_each, for_some, for_one, the_one, takes_first, choosing}
use Rattle.node_meaning.specs.Envs.{Locals, Nest, Held, slot_held, held_unless_static, Here, at, may_act, object_class, local_named, result_name, old_name}
use Rattle.node_meaning.specs.Fitting.{descends, as_answer, fit_then, fitting_in, typed_maybe}
use Rattle.node_meaning.specs.Functions.{application_of, class_value}
use Rattle.node_meaning.specs.Matching.{decided, meets}
use Rattle.node_meaning.specs.Names.{
  function_in,
  operation_in,
  operation_reached,
  own_named,
  value_in,
  variable_in,
  variable_definition,
  is_static_variable,
  variable_home,
  variable_here,
  found_home,
  operation_here,
}
use Rattle.node_meaning.specs.Needs.{Setting, asked}
use Rattle.node_meaning.specs.Records.{field_exprs, field_names, field_value, record_changed, record_made}
use Rattle.node_meaning.specs.Strict.{one_operand, two_operands, a_set, a_sequence, a_tuple, a_map, a_token, a_subsequence, a_component, strict, collected, with_others, make, maplet_exprs}
use Rattle.node_meaning.specs.Tasks.{expr_in, Need, reads, calls, creates, prints, tells_time, Code, fault, value, value_or_fault, with_value, evaluated, cut_to}
use Rattle.node_meaning.specs.Wanted.{Wanted, a_value, no_value, given}

-- ---- names

-- what a local has; an unset one has no value
abbrev pub slot_value : Place → Slot → Locals → Code
slot_value place (Holds v) locals = value v locals
slot_value place Unset locals = fault Undefined place

abbrev pub held_value : Place → Option Slot → Locals → Code
held_value place None locals = fault Undefined place
held_value place (Some slot) locals = slot_value place slot locals

-- a variable of an object is read
abbrev pub read_on : Setting → Place → VarRef → Option ℕ → Locals → Code
read_on setting place var None locals = fault Undefined place
read_on setting place var (Some me) locals = asked setting (reads me var) place locals (with_value place value)

-- ... or taken from what is held. What is held but unset is asked for, as of no object in particular, and nobody gives it: so an
-- invariant that reads it is told from one that fails.
abbrev pub slot_read : Setting → Place → VarRef → Slot → Locals → Code
slot_read setting place var (Holds v) locals = value v locals
slot_read setting place var Unset locals = read_on setting place var (Some 0) locals

abbrev pub held_read : Setting → Place → VarRef → Option Slot → Locals → Code
held_read setting place var None locals = read_on setting place var (Some 0) locals
held_read setting place var (Some slot) locals = slot_read setting place var slot locals

abbrev pub read_held : Setting → Place → VarRef → Option ℕ → Option Held → Locals → Code
read_held setting place var me None locals = read_on setting place var me locals
read_held setting place var me (Some held) locals = held_read setting place var (slot_held held var) locals

abbrev pub read_found : Setting → Here → Place → Option VarRef → Locals → Code
read_found setting here place None locals = fault Undefined place
read_found setting here place (Some var) locals =
    read_held setting place var (variable_here setting.spec here var)
    (held_unless_static (is_static_variable (variable_definition setting.spec var)) here.held) locals

-- what a name means in a class: a class value, or a variable
abbrev pub member_value : Setting → Here → Place → Option Name → Name → Option VarRef → Locals → Code
member_value setting here place scope name (Some ref) locals = class_value setting.spec ref place here.nest locals
member_value setting here place scope name None locals = read_found setting here place (variable_in setting.spec scope name) locals

abbrev pub value_named : Setting → Here → Place → Option Name → Name → Locals → Code
value_named setting here place scope name locals = member_value setting here place scope name (value_in setting.spec scope name) locals

-- a name that stands alone is the newest local of that name, or what it means in the class of the node
abbrev pub name_value : Setting → Here → Place → Name → Option Slot → Locals → Code
name_value setting here place name (Some slot) locals = slot_value place slot locals
name_value setting here place name None locals = value_named setting here place here.scope name locals

-- the object on which the node stands
abbrev pub self_value : Place → Option ℕ → Option Name → Locals → Code
self_value place (Some me) (Some own) locals = value (object me own) locals
self_value place _ _ locals = fault Undefined place

-- ---- selections

-- a variable of the object of a number, which has to be one of its class
abbrev pub read_member : Setting → Place → ℕ → Option VarRef → Locals → Code
read_member setting place n None locals = fault TypeFault place
read_member setting place n (Some var) locals = read_on setting place var (variable_home setting.spec var (Some n)) locals

-- a field of a record, or a variable of an object
abbrev pub selected : Setting → Place → Name → ValueTree → Locals → Code
selected setting place name (record_of class type values) locals = value_or_fault place (field_value setting.spec name class type values) locals
selected setting place name (object n class) locals = read_member setting place n (variable_in setting.spec (Some class) name) locals
selected setting place name v locals = fault TypeFault place

-- a class for an object of a class that has it among its ancestors
abbrev pub class_for : SpecTree → Name → Name → Option Name
class_for spec own class = if descends spec own class then Some class else None

-- what a name means in the class of another name, as a variable of an object
abbrev pub selected_of_class : Setting → Place → Name → Name → ValueTree → Locals → Code
selected_of_class setting place class name (object n own) locals =
    read_member setting place n (variable_in setting.spec (class_for setting.spec own class) name) locals
selected_of_class setting place class name v locals = fault TypeFault place

-- ---- applications

-- what is looked up: in one place alone
abbrev pub looked_up : Here → ExprTree → ExprTrees → Place → Locals → Code
looked_up here head (one_expr argument no_exprs) place locals =
    strict here (two_operands LookUp) place (one_expr head (one_expr argument no_exprs)) locals
looked_up here head _ place locals = fault TypeFault place

abbrev pub places_of : ExprTrees → List Place
places_of no_exprs = []
places_of (one_expr tree trees) = expr_place tree ∷ places_of trees

-- a line feed, as what is printed
abbrev pub line_feed : ValueTree
line_feed = sequence (one_value (character 10) no_values)

-- what an operation of `IO` prints of its arguments
abbrev pub printed_by : Name → List ValueTree → List ValueTree
printed_by name vs = if is_same_name name println then vs ++ line_feed ∷ [] else vs

-- What a call with these arguments needs: an operation of `IO` prints them, and each other one is called.
abbrev pub call_need : ℕ → Name → OpRef → List ValueTree → List Place → Need
call_need number own op vs places =
    if is_same_name op.class io then prints (printed_by op.name vs) else calls number own op vs places

abbrev pub call_asked : Setting → ℕ → Name → OpRef → List Place → Place → Wanted → List ValueTree → Locals → Code
call_asked setting number own op places place wanted vs locals =
    asked setting (call_need number own op vs places) place locals (given wanted place)

-- The arguments of a call, and then the call. Whoever answers tests them.
abbrev pub called_with : Setting → Here → ExprTrees → ℕ → Name → OpRef → Place → Wanted → Locals → Code
called_with setting here arguments number own op place wanted locals =
    collected here place arguments [] (call_asked setting number own op (places_of arguments) place wanted) locals

-- A call on what has no such operation is a type fault at the call, behind its arguments.
abbrev pub no_such_call : Place → List ValueTree → Locals → Code
no_such_call place vs locals = fault TypeFault place

-- an operation that was found, on the object on which it runs
abbrev pub called_on : Setting → Here → ExprTrees → Option ℕ → Name → Option OpRef → Place → Wanted → Locals → Code
called_on setting here arguments (Some number) own (Some op) place wanted locals = called_with setting here arguments number own op place wanted locals
called_on setting here arguments _ own _ place wanted locals = collected here place arguments [] (no_such_call place) locals

-- ... through an object of a class
abbrev pub called_at : Setting → Here → ExprTrees → ℕ → Name → Option OpRef → Place → Wanted → Locals → Code
called_at setting here arguments number own op place wanted locals =
    called_on setting here arguments (found_home setting.spec op (Some number)) own op place wanted locals

abbrev pub arguments_of : ExprTrees → ℕ
arguments_of no_exprs = zero
arguments_of (one_expr argument arguments) = suc (arguments_of arguments)

-- what is looked up in a value: in one place alone
abbrev pub looked_up_in : Here → ExprTrees → Place → ValueTree → Locals → Code
looked_up_in here (one_expr argument no_exprs) place v locals =
    with_others here place (one_expr argument no_exprs) [] (make (two_operands LookUp) place) v locals
looked_up_in here _ place v locals = fault TypeFault place

-- a field of a record is looked up in
abbrev pub field_applied : Here → ExprTrees → Place → Place → Result ValueTree RunFault → Locals → Code
field_applied here arguments place dot (Ok v) locals = looked_up_in here arguments place v locals
field_applied here arguments place dot (Err kind) locals = fault kind dot

-- a variable of an object is read, and looked up in
abbrev pub read_applied : Setting → Here → ExprTrees → Place → Place → VarRef → Option ℕ → Locals → Code
read_applied setting here arguments place dot var None locals = fault Undefined dot
read_applied setting here arguments place dot var (Some home) locals =
    asked setting (reads home var) dot locals (with_value dot (looked_up_in here arguments place))

abbrev pub variable_applied : Setting → Here → ExprTrees → Place → Place → ℕ → Option VarRef → Locals → Code
variable_applied setting here arguments place dot number None locals = collected here place arguments [] (no_such_call place) locals
variable_applied setting here arguments place dot number (Some var) locals =
    read_applied setting here arguments place dot var (variable_home setting.spec var (Some number)) locals

-- a member of an object of a class: an operation is called, a variable looked up in
abbrev pub member_applied : Setting → Here → ExprTrees → Place → Place → Wanted → ℕ → Name → Option OpRef → Option VarRef → Locals → Code
member_applied setting here arguments dot place wanted number own (Some op) var locals =
    called_at setting here arguments number own (Some op) place wanted locals
member_applied setting here arguments dot place wanted number own None var locals =
    variable_applied setting here arguments place dot number var locals

-- a member of a value: one of an object, or a field of a record, which is looked up in
abbrev pub called_through : Setting → Here → Name → ExprTrees → Place → Place → Wanted → ValueTree → Locals → Code
called_through setting here name arguments dot place wanted (object number class) locals =
    member_applied setting here arguments dot place wanted number class
    (operation_reached setting.spec here.scope class name (arguments_of arguments)) (variable_in setting.spec (Some class) name) locals
called_through setting here name arguments dot place wanted (record_of class type values) locals =
    field_applied here arguments place dot (field_value setting.spec name class type values) locals
called_through setting here name arguments dot place wanted v locals = collected here place arguments [] (no_such_call place) locals

-- ... by what its name means in the class of another name
abbrev pub called_of_class : Setting → Here → Name → Name → ExprTrees → Place → Place → Wanted → ValueTree → Locals → Code
called_of_class setting here class name arguments dot place wanted (object number own) locals =
    member_applied setting here arguments dot place wanted number own
    (operation_in setting.spec (class_for setting.spec own class) name (arguments_of arguments))
    (variable_in setting.spec (class_for setting.spec own class) name) locals
called_of_class setting here class name arguments dot place wanted v locals = collected here place arguments [] (no_such_call place) locals

-- the class of the object on which the node stands; without one only a static operation is called, which sees none
abbrev pub own_class : OpRef → Option Name → Name
own_class op None = op.class
own_class op (Some own) = own

-- a name is called where it means an operation that has an object to run on, and else looked up in
abbrev pub called_or_looked_up : Setting → Here → ExprTree → ExprTrees → Option ℕ → Option OpRef → Place → Wanted → Locals → Code
called_or_looked_up setting here head arguments (Some number) (Some op) place wanted locals =
    called_with setting here arguments number (own_class op here.own) op place wanted locals
called_or_looked_up setting here head arguments _ _ place wanted locals = looked_up here head arguments place locals

-- a name that means a function is applied to the arguments; else it may mean this operation
abbrev pub applied_or_called : Setting → Here → ExprTree → ExprTrees → Option OpRef → Option OpRef → Place → Wanted → Locals → Code
applied_or_called setting here head arguments (Some function) op place wanted locals =
    application_of setting.spec here function arguments place locals
applied_or_called setting here head arguments None op place wanted locals =
    called_or_looked_up setting here head arguments (operation_here setting.spec here op) op place wanted locals

-- a local hides functions and operations
abbrev pub name_applied : Setting → Here → ExprTree → Name → ExprTrees → Place → Wanted → Option Slot → Locals → Code
name_applied setting here head name arguments place wanted (Some slot) locals = looked_up here head arguments place locals
name_applied setting here head name arguments place wanted None locals =
    applied_or_called setting here head arguments (function_in setting.spec here.scope name (arguments_of arguments))
    (own_named setting.spec here.scope (object_class here.me here.own) name (arguments_of arguments)) place wanted locals

-- what a name means in the class of another name: its own operation, not that of an object's class
abbrev pub qualified_applied : Setting → Here → ExprTree → Name → Name → ExprTrees → Place → Wanted → Locals → Code
qualified_applied setting here head class name arguments place wanted locals =
    applied_or_called setting here head arguments (function_in setting.spec (Some class) name (arguments_of arguments))
    (operation_in setting.spec (Some class) name (arguments_of arguments)) place wanted locals

-- what an application does, by what is applied; of a selection the value is evaluated first
abbrev pub application : Setting → Here → ExprTree → ExprTrees → Place → Wanted → Locals → Code
application setting here (named name name_place) arguments place wanted locals =
    name_applied setting here (named name name_place) name arguments place wanted (local_named locals name) locals
application setting here (qualified class name name_place class_place) arguments place wanted locals =
    qualified_applied setting here (qualified class name name_place class_place) class name arguments place wanted locals
application setting here (select target name name_place dot) arguments place wanted locals =
    evaluated here locals target place (called_through setting here name arguments dot place wanted)
application setting here (select_of_class target class class_place name name_place dot) arguments place wanted locals =
    evaluated here locals target place (called_of_class setting here class name arguments dot place wanted)
application setting here head arguments place wanted locals = looked_up here head arguments place locals

-- an object that is made with these arguments
abbrev pub creation_asked : Setting → Name → List Place → Place → List ValueTree → Locals → Code
creation_asked setting class places place vs locals = asked setting (creates class vs places) place locals (with_value place value)

-- the arguments of a constructor, and then the object, where the node may make one
abbrev pub created_with : Setting → Here → ExprTrees → Name → Place → Locals → Code
created_with setting here arguments class place locals =
    if may_act here then collected here place arguments [] (creation_asked setting class (places_of arguments) place) locals
    else fault Undefined place

-- ---- the time

-- how many ticks there were, where the node may ask for it
abbrev pub time_told : Setting → Here → Place → Locals → Code
time_told setting here place locals =
    if may_act here then asked setting tells_time place locals (with_value place value) else fault Undefined place

-- ---- tests of classes

abbrev pub class_tested : SpecTree → Here → ClassTest → Place → ExprTrees → Locals → Code
class_tested spec here test place trees locals = collected here place trees [] (class_told spec test) locals

-- ---- operators that stop when decided

-- the value that the left operand decides, where it decides
abbrev pub decided_by : Sign → Bool → Option Bool
decided_by And false = Some false
decided_by Or true = Some true
decided_by Implies false = Some true
decided_by _ _ = None

abbrev pub truth : Bool → Locals → Code
truth b locals = value (boolean b) locals

abbrev pub unless_decided : Here → ExprTree → Place → Option Bool → Locals → Code
unless_decided here right place (Some b) locals = truth b locals
unless_decided here right place None locals = decided here locals right place truth

abbrev pub right_truth : Here → Sign → ExprTree → Place → Bool → Locals → Code
right_truth here sign right place b locals = unless_decided here right place (decided_by sign b) locals

-- the sign of a strict operator, or one of those
abbrev pub joined_by : Here → Option Operator → ExprTree → Sign → ExprTree → Place → Locals → Code
joined_by here (Some operator) left sign right place locals =
    strict here (two_operands operator) place (one_expr left (one_expr right no_exprs)) locals
joined_by here None left sign right place locals = decided here locals left place (right_truth here sign right place)

-- so far each sign before an operand is that of a strict operator
abbrev pub prefixed_by : Here → Option Operator → ExprTree → Place → Locals → Code
prefixed_by here (Some operator) tree place locals = strict here (one_operand operator) place (one_expr tree no_exprs) locals
prefixed_by here None tree place locals = fault Undefined place

-- ---- what is chosen

-- the one branch where the condition is true
abbrev pub branch : Here → ExprTree → (Locals → Code) → Bool → Locals → Code
branch here tree otherwise true locals = become (expr_in (at here locals) tree)
branch here tree otherwise false locals = otherwise locals

abbrev pub branches : Here → Place → BranchTrees → ExprTree → Locals → Code
branches here place no_branches otherwise locals = become (expr_in (at here locals) otherwise)
branches here place (one_branch condition tree more) otherwise locals =
    decided here locals condition place (branch here tree (branches here place more otherwise))

-- an expression among the locals that were bound for it
abbrev pub within : Here → ℕ → ExprTree → Locals → Code
within here count body locals = part (expr_in (at here locals) body) (cut_to count)

abbrev pub no_match : Place → Locals → Code
no_match place locals = fault NoMatch place

abbrev pub others_of : Here → Place → MaybeExpr → Locals → Code
others_of here place left_out locals = fault NoMatch place
others_of here place (given_expr tree) locals = become (expr_in (at here locals) tree)

-- the patterns before one expression, and then the alternatives behind it
abbrev pub patterns_met : SpecTree → Here → Place → ValueTree → PatternTrees → ℕ → ExprTree → (Locals → Code) → Locals → Code
patterns_met spec here place v no_patterns count body more locals = more locals
patterns_met spec here place v (one_pattern pattern patterns) count body more locals =
    meets spec here place pattern (within here count body) (patterns_met spec here place v patterns count body more) v locals

abbrev pub cases_met : SpecTree → Here → Place → CaseTrees → MaybeExpr → ℕ → ValueTree → Locals → Code
cases_met spec here place no_cases others count v locals = others_of here place others locals
cases_met spec here place (one_case patterns body more) others count v locals =
    patterns_met spec here place v patterns count body (λ after. cases_met spec here place more others count v after) locals

-- each definition sees the earlier ones; a value is tested against its type before it meets the pattern
abbrev pub definitions : SpecTree → Here → Place → DefinedTrees → (Locals → Code) → Locals → Code
definitions spec here place no_defined further locals = further locals
definitions spec here place (one_defined pattern declared tree more) further locals =
    evaluated here locals tree place
    (typed_maybe spec here.nest here.scope declared place (meets spec here place pattern (definitions spec here place more further) (no_match place)))

-- ... and then an expression
abbrev pub defined : SpecTree → Here → Place → ℕ → DefinedTrees → ExprTree → Locals → Code
defined spec here place count trees body locals = definitions spec here place trees (within here count body) locals

-- ---- tests of types

-- whether a value fits a type
abbrev pub fit_value : SpecTree → Nest → Option Name → TypeTree → Place → ValueTree → Locals → Code
fit_value spec nest scope t place v locals = fit_then spec nest place (as_answer locals) (fitting_in spec scope t v)

-- ---- all kinds

-- What has no meaning so far is undefined, and no accepted text has it.
abbrev pub expr_plan : Setting → Here → Locals → ExprTree → Code
expr_plan setting here locals (literal written place) = value_or_fault place (sized (literal_value written)) locals
expr_plan setting here locals (named name place) = name_value setting here place name (local_named locals name) locals
expr_plan setting here locals (qualified class name name_place place) = value_named setting here place (Some class) name locals
expr_plan setting here locals (old_value name place) = held_value place (local_named locals (old_name name)) locals
expr_plan setting here locals (self_object place) = self_value place here.me here.own locals
expr_plan setting here locals (current_time place) = time_told setting here place locals
expr_plan setting here locals (undefined place) = fault Undefined place
expr_plan setting here locals (result_value place) = held_value place (local_named locals result_name) locals
expr_plan setting here locals (bracketed inner place) = become (expr_in (at here locals) inner)
expr_plan setting here locals (prefixed sign tree place) = prefixed_by here (sign_operator sign) tree place locals
expr_plan setting here locals (joined left sign right place) = joined_by here (sign_operator sign) left sign right place locals
expr_plan setting here locals (set_enumeration elements place) = strict here a_set place elements locals
expr_plan setting here locals (set_range from to place) =
    strict here (two_operands Interval) place (one_expr from (one_expr to no_exprs)) locals
expr_plan setting here locals (set_comprehension element binds condition place) =
    choosing setting.spec here place binds (collects a_set (one_expr element no_exprs) condition) locals
expr_plan setting here locals (empty_map place) = value (map_of no_pairs) locals
expr_plan setting here locals (map_enumeration maplets place) = strict here a_map place (maplet_exprs maplets) locals
expr_plan setting here locals (map_comprehension key held binds condition place) =
    choosing setting.spec here place binds (collects a_map (one_expr key (one_expr held no_exprs)) condition) locals
expr_plan setting here locals (sequence_enumeration items place) = strict here a_sequence place items locals
expr_plan setting here locals (sequence_comprehension item pattern set condition place) =
    choosing setting.spec here place (one_bind (bind_in (one_pattern pattern no_patterns) set) no_binds)
    (collects a_sequence (one_expr item no_exprs) condition) locals
expr_plan setting here locals (make_tuple parts place) = strict here a_tuple place parts locals
expr_plan setting here locals (make_token inner place) = strict here a_token place (one_expr inner no_exprs) locals
expr_plan setting here locals (make_record t arguments place) =
    collected here place arguments [] (record_made setting.spec here.nest here.scope t place) locals
expr_plan setting here locals (modify_record target changes place) =
    collected here place (one_expr target (field_exprs changes)) [] (record_changed setting.spec here.nest (field_names changes) place) locals
expr_plan setting here locals (is_of_type tree t place) = evaluated here locals tree place (fit_value setting.spec here.nest here.scope t place)
expr_plan setting here locals (is_of_named t tree place) =
    evaluated here locals tree place (fit_value setting.spec here.nest here.scope (named_type t place) place)
expr_plan setting here locals (is_of_basic basic tree place) =
    evaluated here locals tree place (fit_value setting.spec here.nest here.scope (basic_type basic place) place)
expr_plan setting here locals (is_of_class class class_place tree place) =
    class_tested setting.spec here (in_class class) place (one_expr tree no_exprs) locals
expr_plan setting here locals (is_of_base_class class class_place tree place) =
    class_tested setting.spec here (in_base_class class) place (one_expr tree no_exprs) locals
expr_plan setting here locals (same_class left right place) =
    class_tested setting.spec here one_class place (one_expr left (one_expr right no_exprs)) locals
expr_plan setting here locals (same_base_class left right place) =
    class_tested setting.spec here one_base_class place (one_expr left (one_expr right no_exprs)) locals
expr_plan setting here locals (create class class_place arguments place) = created_with setting here arguments class place locals
expr_plan setting here locals (apply head arguments place) = application setting here head arguments place a_value locals
expr_plan setting here locals (select target name name_place place) = evaluated here locals target place (selected setting place name)
expr_plan setting here locals (select_of_class target class class_place name name_place place) =
    evaluated here locals target place (selected_of_class setting place class name)
expr_plan setting here locals (subsequence target from to place) =
    strict here a_subsequence place (one_expr target (one_expr from (one_expr to no_exprs))) locals
expr_plan setting here locals (select_part target number place) = strict here (a_component number) place (one_expr target no_exprs) locals
expr_plan setting here locals (let_in definitions body place) =
    defined setting.spec here place (length locals) definitions body locals
expr_plan setting here locals (let_be bind condition body place) =
    choosing setting.spec here place (one_bind bind no_binds) (takes_first condition body) locals
expr_plan setting here locals (def_in pattern tree body place) =
    defined setting.spec here place (length locals) (one_defined pattern None tree no_defined) body locals
expr_plan setting here locals (if_else condition then_tree elseifs otherwise place) =
    branches here place (one_branch condition then_tree elseifs) otherwise locals
expr_plan setting here locals (cases_of subject alternatives others place) =
    evaluated here locals subject place (cases_met setting.spec here place alternatives others (length locals))
expr_plan setting here locals (for_all binds condition place) = choosing setting.spec here place binds (for_each condition) locals
expr_plan setting here locals (exists_some binds condition place) = choosing setting.spec here place binds (for_some condition) locals
expr_plan setting here locals (exists_one bind condition place) =
    choosing setting.spec here place (one_bind bind no_binds) (for_one condition) locals
expr_plan setting here locals (iota_of bind condition place) =
    choosing setting.spec here place (one_bind bind no_binds) (the_one condition) locals
expr_plan setting here locals tree = fault Undefined (expr_place tree)

-- a call whose value is not wanted: only an application is one
abbrev pub bare_call : Setting → Here → Locals → ExprTree → Code
bare_call setting here locals (apply head arguments place) = application setting here head arguments place no_value locals
bare_call setting here locals tree = fault TypeFault (expr_place tree)
