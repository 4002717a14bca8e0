-- Applications and new objects keep the rules.
use Rattle.std.proofs.Common.{◌≡◌, ◌∷◌, [], Bool, Err, IfOk, List, None, Ok, Option, Result, Some, false, if◌then◌else◌, refl, true, ℕ}
use Rattle.vdm_kinds.specs.NameList.{io}
use Rattle.vdm_kinds.specs.declared.operator.Operator.TheVariants.{LookUp}
use Rattle.vdm_kinds.specs.declared.member.OpRef.{OpRef}
use Rattle.vdm_kinds.specs.declared.member.VarRef.{VarRef}
use Rattle.vdm_kinds.specs.declared.name.Name.{Name}
use Rattle.vdm_kinds.specs.declared.place.Place.{Place}
use Rattle.vdm_kinds.specs.declared.run_fault.RunFault.{RunFault}
use Rattle.vdm_kinds.specs.declared.run_fault.RunFault.TheVariants.{TypeFault, Undefined}
use Rattle.vdm_values.specs.declared.slot.Slot.{Slot}
use Rattle.abstract_syntax.specs.Classes.{SpecTree, is_same_name}
use Rattle.abstract_syntax.specs.Values.{ValueTree, boolean, object, record_of}
use Rattle.abstract_syntax.specs.Expressions.{ExprTree, ExprTrees, named, no_exprs, one_expr, qualified, select, select_of_class}
use Rattle.run_journal.specs.declared.entry.Entry.{Entry}
use Rattle.vdm_legal.specs.ClassObjects.{AreMade}
use Rattle.vdm_legal.proofs.Known.{IsKnown, IsThere}
use Rattle.node_meaning.specs.Envs.{Here, Locals, local_named, may_act, object_class}
use Rattle.node_meaning.specs.ClassTests.{ClassTest, class_told, holds}
use Rattle.node_meaning.specs.Needs.{asked}
use Rattle.node_meaning.specs.Tasks.{calls, creates, fault, prints, reads, tells_time, value, with_value}
use Rattle.node_meaning.specs.Names.{found_home, function_in, operation_here, operation_in, operation_reached, own_named, variable_home, variable_in}
use Rattle.node_meaning.specs.Records.{field_value}
use Rattle.node_meaning.specs.Strict.{collected, make, two_operands}
use Rattle.node_meaning.specs.Expressions.{application, applied_or_called, arguments_of, call_asked, call_need, called_at, called_of_class, called_on, called_or_looked_up, called_through, called_with, class_for, class_tested, created_with, creation_asked, field_applied, looked_up, looked_up_in, member_applied, name_applied, no_such_call, own_class, places_of, printed_by, qualified_applied, read_applied, time_told}
use Rattle.node_meaning.specs.Wanted.{given, Wanted}
use Rattle.stmt_meaning.specs.Questions.{of_thread}
use Rattle.vdm_meaning.proofs.Rules.{HasObject, IsOn, IsSafe}
use Rattle.vdm_meaning.proofs.Parts.{EachKnown, IsAt, at-among, classes-on, is_on-on, may-fail, safe-evaluated, safe-value, safe-with_value}
use Rattle.vdm_meaning.proofs.Calls.{safe-given}
use Rattle.vdm_meaning.proofs.Needs.{IsMet, safe-asked}
use Rattle.vdm_meaning.proofs.Strict.{safe-collected, safe-make, safe-strict}
use Rattle.vdm_meaning.proofs.Records.{field_value_keeps}
use Rattle.vdm_meaning.proofs.Functions.{safe-application_of}
use Rattle.vdm_meaning.proofs.Homes.{found_home-there, operation_here-there, variable_home-there}

-- an operation of `IO` prints, and each other one is called
need-met : (spec : SpecTree) (entries : List Entry) (number : ℕ) (own : Name) (op : OpRef) (vs : List ValueTree) (places : List Place) → IsOn spec entries number → EachKnown spec entries vs → IsMet spec entries (call_need number own op vs places)
need-met spec entries number own op vs places there known = by (is_same_name op.class io)
  where
    by : (b : Bool) → IsMet spec entries (if b then prints (printed_by op.name vs) else calls number own op vs places)
    by true = there.1
    by false = (there, known)

module _ (spec : SpecTree) (first now : List Entry) (here : Here) (place : Place) (locals : Locals) (is_at : IsAt spec first now here locals) where
  safe-looked_up : (head : ExprTree) (arguments : ExprTrees) → IsSafe spec first now (looked_up here head arguments place locals)
  safe-looked_up head (one_expr argument no_exprs) = safe-strict spec first now here (two_operands LookUp) place (one_expr head (one_expr argument no_exprs)) locals is_at
  safe-looked_up head _ = may-fail spec TypeFault place is_at.may

  safe-called_with : (arguments : ExprTrees) (number : ℕ) (own : Name) (op : OpRef) (wanted : Wanted) → IsOn spec now number → IsSafe spec first now (called_with (of_thread spec) here arguments number own op place wanted locals)
  safe-called_with arguments number own op wanted there =
      safe-collected spec first now here place arguments [] (call_asked (of_thread spec) number own op (places_of arguments) place wanted) locals is_at tt (λ later vs after w at_later known.
      safe-asked spec first later here after (call_need number own op vs (places_of arguments)) place (given wanted place) at_later
      (need-met spec later number own op vs (places_of arguments) (is_on-on now later w number there) known) (λ end flow at_end also.
      safe-given spec wanted place flow at_end also))

  safe-no_such_call : (arguments : ExprTrees) → IsSafe spec first now (collected here place arguments [] (no_such_call place) locals)
  safe-no_such_call arguments =
      safe-collected spec first now here place arguments [] (no_such_call place) locals is_at tt (λ later vs after w at_later known. may-fail spec TypeFault place at_later.may)

  safe-called_on : (arguments : ExprTrees) (number : Option ℕ) (own : Name) (op : Option OpRef) (wanted : Wanted) → HasObject spec now number → IsSafe spec first now (called_on (of_thread spec) here arguments number own op place wanted locals)
  safe-called_on arguments (Some number) own (Some op) wanted there = safe-called_with arguments number own op wanted there
  safe-called_on arguments _ own _ wanted there = safe-no_such_call arguments

  safe-called_at : (arguments : ExprTrees) (number : ℕ) (own : Name) (op : Option OpRef) (wanted : Wanted) → IsOn spec now number → IsSafe spec first now (called_at (of_thread spec) here arguments number own op place wanted locals)
  safe-called_at arguments number own op wanted there =
      safe-called_on arguments (found_home spec op (Some number)) own op wanted (found_home-there spec now there.1 op (Some number) there)

  safe-looked_up_in : (arguments : ExprTrees) (v : ValueTree) → IsKnown spec now v → IsSafe spec first now (looked_up_in here arguments place v locals)
  safe-looked_up_in (one_expr argument no_exprs) v known =
      safe-collected spec first now here place (one_expr argument no_exprs) (v ∷ []) (make (two_operands LookUp) place) locals is_at (known, tt) (λ later vs after w at_later also.
      safe-make spec (two_operands LookUp) place vs at_later also)
  safe-looked_up_in _ v known = may-fail spec TypeFault place is_at.may

  safe-field_applied : (arguments : ExprTrees) (dot : Place) (found : Result ValueTree RunFault) → IfOk found (IsKnown spec now) → IsSafe spec first now (field_applied here arguments place dot found locals)
  safe-field_applied arguments dot (Ok v) known = safe-looked_up_in arguments v known
  safe-field_applied arguments dot (Err kind) known = may-fail spec kind dot is_at.may
  -- an object that is known is there

-- what asks, and goes on with what is above
module _ (spec : SpecTree) (first now : List Entry) (here : Here) (place : Place) (locals : Locals) (is_at : IsAt spec first now here locals) where
  safe-read_applied : (arguments : ExprTrees) (dot : Place) (var : VarRef) (home : Option ℕ) → HasObject spec now home → IsSafe spec first now (read_applied (of_thread spec) here arguments place dot var home locals)
  safe-read_applied arguments dot var None there = may-fail spec Undefined dot is_at.may
  safe-read_applied arguments dot var (Some home) there =
      safe-asked spec first now here locals (reads home var) dot (with_value dot (looked_up_in here arguments place)) is_at there (λ later flow at_later known.
      safe-with_value spec dot (looked_up_in here arguments place) flow at_later known (λ v after k l.
      safe-looked_up_in spec first later here place after (at-among at_later after l) arguments v k))

  safe-member_applied : (arguments : ExprTrees) (dot : Place) (wanted : Wanted) (number : ℕ) (own : Name) (op : Option OpRef) (var : Option VarRef) → IsOn spec now number → IsSafe spec first now (member_applied (of_thread spec) here arguments dot place wanted number own op var locals)
  safe-member_applied arguments dot wanted number own (Some op) var there = safe-called_at spec first now here place locals is_at arguments number own (Some op) wanted there
  safe-member_applied arguments dot wanted number own None None there = safe-no_such_call spec first now here place locals is_at arguments
  safe-member_applied arguments dot wanted number own None (Some var) there =
      safe-read_applied arguments dot var (variable_home spec var (Some number)) (variable_home-there spec now there.1 var (Some number) there)

  safe-called_through : (name : Name) (arguments : ExprTrees) (dot : Place) (wanted : Wanted) (v : ValueTree) → IsKnown spec now v → IsSafe spec first now (called_through (of_thread spec) here name arguments dot place wanted v locals)
  safe-called_through name arguments dot wanted (object n class) known =
      safe-member_applied arguments dot wanted n class (operation_reached spec here.scope class name (arguments_of arguments)) (variable_in spec (Some class) name) known
  safe-called_through name arguments dot wanted (record_of class type values) known =
      safe-field_applied spec first now here place locals is_at arguments dot (field_value spec name class type values) (field_value_keeps (IsThere spec now) spec name class type values known)
  safe-called_through name arguments dot wanted v known = safe-no_such_call spec first now here place locals is_at arguments

  pub safe-called_of_class : (class name : Name) (arguments : ExprTrees) (dot : Place) (wanted : Wanted) (v : ValueTree) → IsKnown spec now v → IsSafe spec first now (called_of_class (of_thread spec) here class name arguments dot place wanted v locals)
  safe-called_of_class class name arguments dot wanted (object n own) known =
      safe-member_applied arguments dot wanted n own (operation_in spec (class_for spec own class) name (arguments_of arguments))
      (variable_in spec (class_for spec own class) name) known
  safe-called_of_class class name arguments dot wanted v known = safe-no_such_call spec first now here place locals is_at arguments

  safe-called_or_looked_up : (head : ExprTree) (arguments : ExprTrees) (number : Option ℕ) (op : Option OpRef) (wanted : Wanted) → HasObject spec now number → IsSafe spec first now (called_or_looked_up (of_thread spec) here head arguments number op place wanted locals)
  safe-called_or_looked_up head arguments (Some number) (Some op) wanted there = safe-called_with spec first now here place locals is_at arguments number (own_class op here.own) op wanted there
  safe-called_or_looked_up head arguments _ _ wanted there = safe-looked_up spec first now here place locals is_at head arguments

  safe-applied_or_called : (head : ExprTree) (arguments : ExprTrees) (function op : Option OpRef) (wanted : Wanted) → IsSafe spec first now (applied_or_called (of_thread spec) here head arguments function op place wanted locals)
  safe-applied_or_called head arguments (Some function) op wanted = safe-application_of spec first now here function arguments place locals is_at
  safe-applied_or_called head arguments None op wanted =
      safe-called_or_looked_up head arguments (operation_here spec here op) op wanted (operation_here-there spec now here is_at.may.classes is_at.may.me op)

  safe-name_applied : (head : ExprTree) (name : Name) (arguments : ExprTrees) (wanted : Wanted) (local : Option Slot) → IsSafe spec first now (name_applied (of_thread spec) here head name arguments place wanted local locals)
  safe-name_applied head name arguments wanted (Some slot) = safe-looked_up spec first now here place locals is_at head arguments
  safe-name_applied head name arguments wanted None =
      safe-applied_or_called head arguments (function_in spec here.scope name (arguments_of arguments)) (own_named spec here.scope (object_class here.me here.own) name (arguments_of arguments)) wanted

  safe-qualified_applied : (head : ExprTree) (class name : Name) (arguments : ExprTrees) (wanted : Wanted) → IsSafe spec first now (qualified_applied (of_thread spec) here head class name arguments place wanted locals)
  safe-qualified_applied head class name arguments wanted =
      safe-applied_or_called head arguments (function_in spec (Some class) name (arguments_of arguments)) (operation_in spec (Some class) name (arguments_of arguments)) wanted

  -- a node that may act may make an object
  safe-creation : (arguments : ExprTrees) (class : Name) → AreMade spec now → IsSafe spec first now (collected here place arguments [] (creation_asked (of_thread spec) class (places_of arguments) place) locals)
  safe-creation arguments class made =
      safe-collected spec first now here place arguments [] (creation_asked (of_thread spec) class (places_of arguments) place) locals is_at tt (λ later vs after w at_later known.
      safe-asked spec first later here after (creates class vs (places_of arguments)) place (with_value place value) at_later (classes-on now later w made, known) (λ end flow at_end also.
      safe-with_value spec place value flow at_end also (λ v others k l. safe-value spec v (at-among at_end others l) k)))

  pub safe-created_with : (arguments : ExprTrees) (class : Name) → IsSafe spec first now (created_with (of_thread spec) here arguments class place locals)
  safe-created_with arguments class = by (may_act here) refl
    where
      by : (b : Bool) → may_act here ≡ b → IsSafe spec first now (if b then collected here place arguments [] (creation_asked (of_thread spec) class (places_of arguments) place) locals else fault Undefined place)
      by true acts = safe-creation arguments class (is_at.may.classes acts)
      by false acts = may-fail spec Undefined place is_at.may

  -- a node that may act may ask for the time
  safe-time : AreMade spec now → IsSafe spec first now (asked (of_thread spec) tells_time place locals (with_value place value))
  safe-time made =
      safe-asked spec first now here locals tells_time place (with_value place value) is_at made (λ end flow at_end also.
      safe-with_value spec place value flow at_end also (λ v others k l. safe-value spec v (at-among at_end others l) k))

  pub safe-time_told : IsSafe spec first now (time_told (of_thread spec) here place locals)
  safe-time_told = by (may_act here) refl
    where
      by : (b : Bool) → may_act here ≡ b → IsSafe spec first now (if b then asked (of_thread spec) tells_time place locals (with_value place value) else fault Undefined place)
      by true acts = safe-time (is_at.may.classes acts)
      by false acts = may-fail spec Undefined place is_at.may

  pub safe-class_tested : (test : ClassTest) (trees : ExprTrees) → IsSafe spec first now (class_tested spec here test place trees locals)
  safe-class_tested test trees =
      safe-collected spec first now here place trees [] (class_told spec test) locals is_at tt (λ later vs after w at_later known.
      safe-value spec (boolean (holds spec test vs)) at_later tt)

pub safe-application : (spec : SpecTree) (first now : List Entry) (here : Here) (head : ExprTree) (arguments : ExprTrees) (place : Place) (wanted : Wanted) (locals : Locals) → IsAt spec first now here locals → IsSafe spec first now (application (of_thread spec) here head arguments place wanted locals)
safe-application spec first now here (named name name_place) arguments place wanted locals is_at =
    safe-name_applied spec first now here place locals is_at (named name name_place) name arguments wanted (local_named locals name)
safe-application spec first now here (qualified class name name_place class_place) arguments place wanted locals is_at =
    safe-qualified_applied spec first now here place locals is_at (qualified class name name_place class_place) class name arguments wanted
safe-application spec first now here (select target name name_place dot) arguments place wanted locals is_at =
    safe-evaluated spec first now here locals target place (called_through (of_thread spec) here name arguments dot place wanted) is_at (λ later v after w at_later known.
    safe-called_through spec first later here place after at_later name arguments dot wanted v known)
safe-application spec first now here (select_of_class target class class_place name name_place dot) arguments place wanted locals is_at =
    safe-evaluated spec first now here locals target place (called_of_class (of_thread spec) here class name arguments dot place wanted) is_at (λ later v after w at_later known.
    safe-called_of_class spec first later here place after at_later class name arguments dot wanted v known)
safe-application spec first now here head arguments place wanted locals is_at = safe-looked_up spec first now here place locals is_at head arguments
