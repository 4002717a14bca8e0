-- Expressions ask, in a thread, questions that entries answer.
use Rattle.std.proofs.Common.{◌∷◌, [], Bool, true, false, length, Option, Some, None, Result, Ok, Err, ℕ}
use Rattle.vdm_kinds.specs.declared.member.OpRef.{OpRef}
use Rattle.vdm_kinds.specs.declared.member.VarRef.{VarRef}
use Rattle.vdm_kinds.specs.declared.name.Name.{Name}
use Rattle.vdm_kinds.specs.declared.operator.Operator.{Operator}
use Rattle.vdm_kinds.specs.declared.operator.Operator.TheVariants.{Interval, LookUp}
use Rattle.vdm_kinds.specs.declared.place.Place.{Place}
use Rattle.vdm_kinds.specs.declared.run_fault.RunFault.{RunFault}
use Rattle.vdm_kinds.specs.declared.run_fault.RunFault.TheVariants.{Undefined}
use Rattle.vdm_kinds.specs.declared.sign.Sign.{Sign}
use Rattle.vdm_kinds.specs.Signs.{sign_operator}
use Rattle.vdm_values.specs.declared.slot.Slot.{Slot}
use Rattle.vdm_values.specs.declared.slot.Slot.TheVariants.{Unset, Held as Holds}
use Rattle.abstract_syntax.specs.Types.{TypeTree, basic_type, named_type}
use Rattle.abstract_syntax.specs.Values.{ValueTree, object, record_of}
use Rattle.abstract_syntax.specs.Expressions.{ExprTree, literal, named, qualified, old_value, self_object, current_time, result_value, bracketed, prefixed, joined, set_enumeration, set_range, set_comprehension, empty_map, map_enumeration, map_comprehension, sequence_enumeration, sequence_comprehension, make_tuple, make_token, make_record, modify_record, is_of_type, is_of_named, is_of_basic, is_of_class, is_of_base_class, same_class, same_base_class, create, apply, subsequence, select, select_of_class, select_part, let_in, let_be, def_in, if_else, cases_of, for_all, exists_some, exists_one, iota_of, ExprTrees, no_exprs, one_expr, MaybeExpr, left_out, given_expr, DefinedTrees, no_defined, one_defined, BranchTrees, no_branches, one_branch, CaseTrees, no_cases, one_case, bind_in, no_binds, one_bind, PatternTrees, no_patterns, one_pattern}
use Rattle.abstract_syntax.specs.Classes.{SpecTree}
use Rattle.value_operators.specs.Outcomes.{sized}
use Rattle.pattern_meaning.specs.Ways.{literal_value}
use Rattle.node_meaning.specs.Wanted.{Wanted, a_value, given}
use Rattle.node_meaning.specs.ClassTests.{ClassTest, in_class, in_base_class, one_class, one_base_class, class_told}
use Rattle.node_meaning.specs.Choosing.{collects, for_each, for_some, for_one, the_one, takes_first}
use Rattle.node_meaning.specs.Envs.{Locals, Held, held_unless_static, slot_held, Here, may_act, object_class, local_named, old_name, result_name}
use Rattle.node_meaning.specs.Expressions.{slot_value, held_value, slot_read, held_read, read_on, read_held, read_found, member_value, value_named, name_value, read_member, selected, selected_of_class, self_value, looked_up, call_asked, call_need, called_at, called_of_class, called_with, class_for, creation_asked, member_applied, own_class, read_applied, places_of, no_such_call, called_on, arguments_of, looked_up_in, field_applied, called_through, called_or_looked_up, applied_or_called, name_applied, qualified_applied, application, created_with, decided_by, truth, unless_decided, right_truth, joined_by, prefixed_by, branch, branches, within, no_match, others_of, patterns_met, cases_met, defined, definitions, fit_value, expr_plan, time_told, class_tested}
use Rattle.node_meaning.specs.Fitting.{typed_maybe}
use Rattle.node_meaning.specs.Matching.{meets}
use Rattle.node_meaning.specs.Needs.{asked}
use Rattle.node_meaning.specs.Names.{found_home, function_in, is_static_variable, operation_here, operation_in, operation_reached, own_named, value_in, variable_definition, variable_here, variable_home, variable_in}
use Rattle.node_meaning.specs.Records.{field_exprs, field_names, field_value, record_changed, record_made, record_type}
use Rattle.node_meaning.specs.Strict.{one_operand, two_operands, a_set, a_sequence, a_tuple, a_map, a_token, a_subsequence, a_component, collected, make, maplet_exprs}
use Rattle.node_meaning.specs.Tasks.{Flow, reads, creates, tells_time, Code, fault, value, with_value, evaluated}
use Rattle.stmt_meaning.specs.Questions.{of_thread}
use Rattle.noted_laws.proofs.Noting.{Notes, Onward, OnwardWith, notes-collected, notes-cut_to, notes-decided, notes-evaluated, notes-fit_value, notes-if, notes-make, notes-meets, notes-strict, notes-typed_maybe, notes-value_or_fault, notes-with_value}
use Rattle.noted_laws.proofs.NotedCalls.{notes-asked, notes-given}
use Rattle.noted_laws.proofs.NotedChoices.{notes-choosing}
use Rattle.noted_laws.proofs.NotedFunctions.{notes-application_of, notes-class_value}
use Rattle.noted_laws.proofs.NotedRecords.{notes-record_changed, notes-record_of_type}

module _ (spec : SpecTree) (here : Here) (place : Place) where
  -- ---- names

  notes-slot_value : (slot : Slot) → Onward (slot_value place slot)
  notes-slot_value (Holds v) locals = tt
  notes-slot_value Unset locals = tt

  notes-held_value : (found : Option Slot) → Onward (held_value place found)
  notes-held_value None locals = tt
  notes-held_value (Some slot) locals = notes-slot_value slot locals

  notes-value : (flow : Flow) → Notes (with_value place value flow)
  notes-value = notes-with_value place value (λ v locals. tt)

  notes-read_on : (var : VarRef) (me : Option ℕ) → Onward (read_on (of_thread spec) place var me)
  notes-read_on var None locals = tt
  notes-read_on var (Some me) locals = notes-asked spec (reads me var) place locals (with_value place value) notes-value

  notes-slot_read : (var : VarRef) (slot : Slot) → Onward (slot_read (of_thread spec) place var slot)
  notes-slot_read var (Holds v) locals = tt
  notes-slot_read var Unset locals = notes-read_on var (Some 0) locals

  notes-held_read : (var : VarRef) (found : Option Slot) → Onward (held_read (of_thread spec) place var found)
  notes-held_read var None locals = notes-read_on var (Some 0) locals
  notes-held_read var (Some slot) locals = notes-slot_read var slot locals

  notes-read_held : (var : VarRef) (me : Option ℕ) (held : Option Held) → Onward (read_held (of_thread spec) place var me held)
  notes-read_held var me None locals = notes-read_on var me locals
  notes-read_held var me (Some held) locals = notes-held_read var (slot_held held var) locals

  notes-read_found : (found : Option VarRef) → Onward (read_found (of_thread spec) here place found)
  notes-read_found None locals = tt
  notes-read_found (Some var) locals =
      notes-read_held var (variable_here spec here var) (held_unless_static (is_static_variable (variable_definition spec var)) here.held) locals

  notes-member_value : (scope : Option Name) (name : Name) (found : Option VarRef) → Onward (member_value (of_thread spec) here place scope name found)
  notes-member_value scope name (Some ref) locals = notes-class_value spec ref place here.nest locals
  notes-member_value scope name None locals = notes-read_found (variable_in spec scope name) locals

  notes-value_named : (scope : Option Name) (name : Name) → Onward (value_named (of_thread spec) here place scope name)
  notes-value_named scope name = notes-member_value scope name (value_in spec scope name)

  notes-name : (name : Name) (local : Option Slot) → Onward (name_value (of_thread spec) here place name local)
  notes-name name (Some slot) locals = notes-slot_value slot locals
  notes-name name None locals = notes-value_named here.scope name locals

  -- ---- selections

  notes-read_member : (n : ℕ) (found : Option VarRef) → Onward (read_member (of_thread spec) place n found)
  notes-read_member n None locals = tt
  notes-read_member n (Some var) locals = notes-read_on var (variable_home spec var (Some n)) locals

  notes-selected : (name : Name) → OnwardWith (selected (of_thread spec) place name)
  notes-selected name (record_of class type values) locals = notes-value_or_fault place (field_value spec name class type values) locals
  notes-selected name (object n class) locals = notes-read_member n (variable_in spec (Some class) name) locals
  notes-selected name v locals = tt

  notes-selected_of_class : (class name : Name) → OnwardWith (selected_of_class (of_thread spec) place class name)
  notes-selected_of_class class name (object n own) locals = notes-read_member n (variable_in spec (class_for spec own class) name) locals
  notes-selected_of_class class name v locals = tt

  notes-self : (me : Option ℕ) (own : Option Name) → Onward (self_value place me own)
  notes-self (Some me) (Some own) locals = tt
  notes-self _ _ locals = tt

  -- ---- applications

  notes-looked_up : (head : ExprTree) (arguments : ExprTrees) → Onward (looked_up here head arguments place)
  notes-looked_up head (one_expr argument no_exprs) = notes-strict here (two_operands LookUp) place (one_expr head (one_expr argument no_exprs))
  notes-looked_up head _ = λ locals. tt

  notes-no_such_call : (arguments : ExprTrees) → Onward (collected here place arguments [] (no_such_call place))
  notes-no_such_call arguments = notes-collected here place arguments [] (no_such_call place) (λ vs locals. tt)

  notes-looked_up_in : (arguments : ExprTrees) → OnwardWith (looked_up_in here arguments place)
  notes-looked_up_in (one_expr argument no_exprs) v =
      notes-collected here place (one_expr argument no_exprs) (v ∷ []) (make (two_operands LookUp) place) (notes-make (two_operands LookUp) place)
  notes-looked_up_in _ v = λ locals. tt

  notes-field_applied : (arguments : ExprTrees) (dot : Place) (found : Result ValueTree RunFault) → Onward (field_applied here arguments place dot found)
  notes-field_applied arguments dot (Ok v) locals = notes-looked_up_in arguments v locals
  notes-field_applied arguments dot (Err kind) locals = tt

  module _ (wanted : Wanted) where
    notes-called_with : (arguments : ExprTrees) (number : ℕ) (own : Name) (op : OpRef) → Onward (called_with (of_thread spec) here arguments number own op place wanted)
    notes-called_with arguments number own op =
        notes-collected here place arguments [] (call_asked (of_thread spec) number own op (places_of arguments) place wanted)
        (λ vs locals. notes-asked spec (call_need number own op vs (places_of arguments)) place locals (given wanted place) (notes-given wanted place))

    notes-called_on : (arguments : ExprTrees) (number : Option ℕ) (own : Name) (op : Option OpRef) → Onward (called_on (of_thread spec) here arguments number own op place wanted)
    notes-called_on arguments (Some number) own (Some op) locals = notes-called_with arguments number own op locals
    notes-called_on arguments _ own _ locals = notes-no_such_call arguments locals

    notes-called_at : (arguments : ExprTrees) (number : ℕ) (own : Name) (op : Option OpRef) → Onward (called_at (of_thread spec) here arguments number own op place wanted)
    notes-called_at arguments number own op = notes-called_on arguments (found_home spec op (Some number)) own op

    notes-read_applied : (arguments : ExprTrees) (dot : Place) (var : VarRef) (home : Option ℕ) → Onward (read_applied (of_thread spec) here arguments place dot var home)
    notes-read_applied arguments dot var None locals = tt
    notes-read_applied arguments dot var (Some home) locals =
        notes-asked spec (reads home var) dot locals (with_value dot (looked_up_in here arguments place)) (notes-with_value dot (looked_up_in here arguments place) (notes-looked_up_in arguments))

    notes-member_applied : (arguments : ExprTrees) (dot : Place) (number : ℕ) (own : Name) (op : Option OpRef) (var : Option VarRef) → Onward (member_applied (of_thread spec) here arguments dot place wanted number own op var)
    notes-member_applied arguments dot number own (Some op) var locals = notes-called_at arguments number own (Some op) locals
    notes-member_applied arguments dot number own None None locals = notes-no_such_call arguments locals
    notes-member_applied arguments dot number own None (Some var) locals = notes-read_applied arguments dot var (variable_home spec var (Some number)) locals

    notes-called_through : (name : Name) (arguments : ExprTrees) (dot : Place) → OnwardWith (called_through (of_thread spec) here name arguments dot place wanted)
    notes-called_through name arguments dot (object n class) locals =
        notes-member_applied arguments dot n class (operation_reached spec here.scope class name (arguments_of arguments)) (variable_in spec (Some class) name) locals
    notes-called_through name arguments dot (record_of class type values) locals =
        notes-field_applied arguments dot (field_value spec name class type values) locals
    notes-called_through name arguments dot v locals = notes-no_such_call arguments locals

    notes-called_of_class : (class name : Name) (arguments : ExprTrees) (dot : Place) → OnwardWith (called_of_class (of_thread spec) here class name arguments dot place wanted)
    notes-called_of_class class name arguments dot (object n own) locals =
        notes-member_applied arguments dot n own (operation_in spec (class_for spec own class) name (arguments_of arguments))
        (variable_in spec (class_for spec own class) name) locals
    notes-called_of_class class name arguments dot v locals = notes-no_such_call arguments locals

    notes-called_or_looked_up : (head : ExprTree) (arguments : ExprTrees) (number : Option ℕ) (op : Option OpRef) → Onward (called_or_looked_up (of_thread spec) here head arguments number op place wanted)
    notes-called_or_looked_up head arguments (Some number) (Some op) locals = notes-called_with arguments number (own_class op here.own) op locals
    notes-called_or_looked_up head arguments _ _ locals = notes-looked_up head arguments locals

    notes-applied_or_called : (head : ExprTree) (arguments : ExprTrees) (function op : Option OpRef) → Onward (applied_or_called (of_thread spec) here head arguments function op place wanted)
    notes-applied_or_called head arguments (Some function) op locals = notes-application_of spec here function arguments place locals
    notes-applied_or_called head arguments None op locals = notes-called_or_looked_up head arguments (operation_here spec here op) op locals

    notes-name_applied : (head : ExprTree) (name : Name) (arguments : ExprTrees) (local : Option Slot) → Onward (name_applied (of_thread spec) here head name arguments place wanted local)
    notes-name_applied head name arguments (Some slot) locals = notes-looked_up head arguments locals
    notes-name_applied head name arguments None locals =
        notes-applied_or_called head arguments (function_in spec here.scope name (arguments_of arguments)) (own_named spec here.scope (object_class here.me here.own) name (arguments_of arguments)) locals

    notes-qualified_applied : (head : ExprTree) (class name : Name) (arguments : ExprTrees) → Onward (qualified_applied (of_thread spec) here head class name arguments place wanted)
    notes-qualified_applied head class name arguments locals =
        notes-applied_or_called head arguments (function_in spec (Some class) name (arguments_of arguments)) (operation_in spec (Some class) name (arguments_of arguments)) locals

    pub notes-application : (head : ExprTree) (arguments : ExprTrees) → Onward (application (of_thread spec) here head arguments place wanted)
    notes-application (named name name_place) arguments locals = notes-name_applied (named name name_place) name arguments (local_named locals name) locals
    notes-application (qualified class name name_place class_place) arguments locals =
        notes-qualified_applied (qualified class name name_place class_place) class name arguments locals
    notes-application (select target name name_place dot) arguments locals =
        notes-evaluated here locals target place (called_through (of_thread spec) here name arguments dot place wanted) (notes-called_through name arguments dot)
    notes-application (select_of_class target class class_place name name_place dot) arguments locals =
        notes-evaluated here locals target place (called_of_class (of_thread spec) here class name arguments dot place wanted) (notes-called_of_class class name arguments dot)
    notes-application head arguments locals = notes-looked_up head arguments locals

  notes-created_with : (arguments : ExprTrees) (class : Name) → Onward (created_with (of_thread spec) here arguments class place)
  notes-created_with arguments class locals =
      notes-if (may_act here) (collected here place arguments [] (creation_asked (of_thread spec) class (places_of arguments) place) locals) (fault Undefined place)
      (notes-collected here place arguments [] (creation_asked (of_thread spec) class (places_of arguments) place)
      (λ vs after. notes-asked spec (creates class vs (places_of arguments)) place after (with_value place value) notes-value) locals)
      tt

  notes-time_told : Onward (time_told (of_thread spec) here place)
  notes-time_told locals =
      notes-if (may_act here) (asked (of_thread spec) tells_time place locals (with_value place value)) (fault Undefined place)
      (notes-asked spec tells_time place locals (with_value place value) notes-value)
      tt

  notes-class_tested : (test : ClassTest) (trees : ExprTrees) → Onward (class_tested spec here test place trees)
  notes-class_tested test trees = notes-collected here place trees [] (class_told spec test) (λ vs after. tt)

  -- ---- operators

  notes-unless_decided : (right : ExprTree) (decides : Option Bool) → Onward (unless_decided here right place decides)
  notes-unless_decided right (Some b) locals = tt
  notes-unless_decided right None locals = notes-decided here locals right place truth (λ b after. tt)

  notes-joined_by : (operator : Option Operator) (left : ExprTree) (sign : Sign) (right : ExprTree) → Onward (joined_by here operator left sign right place)
  notes-joined_by (Some operator) left sign right locals = notes-strict here (two_operands operator) place (one_expr left (one_expr right no_exprs)) locals
  notes-joined_by None left sign right locals = notes-decided here locals left place (right_truth here sign right place) (λ b. notes-unless_decided right (decided_by sign b))

  notes-prefixed_by : (operator : Option Operator) (tree : ExprTree) → Onward (prefixed_by here operator tree place)
  notes-prefixed_by (Some operator) tree locals = notes-strict here (one_operand operator) place (one_expr tree no_exprs) locals
  notes-prefixed_by None tree locals = tt

  -- ---- what is chosen

  notes-branch : (tree : ExprTree) (otherwise : Locals → Code) → Onward otherwise → OnwardWith (branch here tree otherwise)
  notes-branch tree otherwise h true locals = tt
  notes-branch tree otherwise h false locals = h locals

  notes-branches : (more : BranchTrees) (otherwise : ExprTree) → Onward (branches here place more otherwise)
  notes-branches no_branches otherwise locals = tt
  notes-branches (one_branch condition tree more) otherwise locals =
      notes-decided here locals condition place (branch here tree (branches here place more otherwise))
      (notes-branch tree (branches here place more otherwise) (notes-branches more otherwise))

  notes-within : (count : ℕ) (body : ExprTree) → Onward (within here count body)
  notes-within count body locals = notes-cut_to count

  notes-others_of : (others : MaybeExpr) → Onward (others_of here place others)
  notes-others_of left_out locals = tt
  notes-others_of (given_expr tree) locals = tt

  notes-patterns_met : (v : ValueTree) (patterns : PatternTrees) (count : ℕ) (body : ExprTree) (more : Locals → Code) → Onward more → Onward (patterns_met spec here place v patterns count body more)
  notes-patterns_met v no_patterns count body more h locals = h locals
  notes-patterns_met v (one_pattern pattern patterns) count body more h locals =
      notes-meets spec here place pattern (within here count body) (patterns_met spec here place v patterns count body more)
      (notes-within count body) (notes-patterns_met v patterns count body more h) v locals

  notes-cases_met : (alternatives : CaseTrees) (others : MaybeExpr) (count : ℕ) → OnwardWith (cases_met spec here place alternatives others count)
  notes-cases_met no_cases others count v locals = notes-others_of others locals
  notes-cases_met (one_case patterns body more) others count v locals =
      notes-patterns_met v patterns count body (λ after. cases_met spec here place more others count v after) (notes-cases_met more others count v) locals

  pub notes-definitions : (trees : DefinedTrees) (further : Locals → Code) → Onward further → Onward (definitions spec here place trees further)
  notes-definitions no_defined further h locals = h locals
  notes-definitions (one_defined pattern declared tree more) further h locals =
      let goes = meets spec here place pattern (definitions spec here place more further) (no_match place) in
      notes-evaluated here locals tree place (typed_maybe spec here.nest here.scope declared place goes)
      (notes-typed_maybe spec here.nest here.scope declared place goes
      (notes-meets spec here place pattern (definitions spec here place more further) (no_match place) (notes-definitions more further h) (λ after. tt)))

  notes-defined : (count : ℕ) (trees : DefinedTrees) (body : ExprTree) → Onward (defined spec here place count trees body)
  notes-defined count trees body = notes-definitions trees (within here count body) (notes-within count body)

-- ---- all kinds of expressions

module _ (spec : SpecTree) (here : Here) (locals : Locals) where
  notes-fit : (tree : ExprTree) (t : TypeTree) (place : Place) → Notes (evaluated here locals tree place (fit_value spec here.nest here.scope t place))
  notes-fit tree t place = notes-evaluated here locals tree place (fit_value spec here.nest here.scope t place) (notes-fit_value spec here.nest here.scope t place)

  pub notes-expr : (tree : ExprTree) → Notes (expr_plan (of_thread spec) here locals tree)
  notes-expr (literal tree place) = notes-value_or_fault place (sized (literal_value tree)) locals
  notes-expr (named name place) = notes-name spec here place name (local_named locals name) locals
  notes-expr (qualified class name name_place place) = notes-value_named spec here place (Some class) name locals
  notes-expr (old_value name place) = notes-held_value spec here place (local_named locals (old_name name)) locals
  notes-expr (self_object place) = notes-self spec here place here.me here.own locals
  notes-expr (current_time place) = notes-time_told spec here place locals
  notes-expr (result_value place) = notes-held_value spec here place (local_named locals result_name) locals
  notes-expr (bracketed inner place) = tt
  notes-expr (prefixed sign tree place) = notes-prefixed_by spec here place (sign_operator sign) tree locals
  notes-expr (joined left sign right place) = notes-joined_by spec here place (sign_operator sign) left sign right locals
  notes-expr (set_enumeration elements place) = notes-strict here a_set place elements locals
  notes-expr (set_range from to place) = notes-strict here (two_operands Interval) place (one_expr from (one_expr to no_exprs)) locals
  notes-expr (set_comprehension element binds condition place) = notes-choosing here place spec binds (collects a_set (one_expr element no_exprs) condition) locals
  notes-expr (empty_map place) = tt
  notes-expr (map_enumeration maplets place) = notes-strict here a_map place (maplet_exprs maplets) locals
  notes-expr (map_comprehension key held binds condition place) =
      notes-choosing here place spec binds (collects a_map (one_expr key (one_expr held no_exprs)) condition) locals
  notes-expr (sequence_enumeration items place) = notes-strict here a_sequence place items locals
  notes-expr (sequence_comprehension item pattern set condition place) =
      notes-choosing here place spec (one_bind (bind_in (one_pattern pattern no_patterns) set) no_binds) (collects a_sequence (one_expr item no_exprs) condition) locals
  notes-expr (make_tuple parts place) = notes-strict here a_tuple place parts locals
  notes-expr (make_token inner place) = notes-strict here a_token place (one_expr inner no_exprs) locals
  notes-expr (make_record t arguments place) =
      notes-collected here place arguments [] (record_made spec here.nest here.scope t place) (notes-record_of_type spec here.nest place (record_type spec here.scope t)) locals
  notes-expr (modify_record target changes place) =
      notes-collected here place (one_expr target (field_exprs changes)) [] (record_changed spec here.nest (field_names changes) place)
      (notes-record_changed spec here.nest place (field_names changes)) locals
  notes-expr (is_of_type tree t place) = notes-fit tree t place
  notes-expr (is_of_named t tree place) = notes-fit tree (named_type t place) place
  notes-expr (is_of_basic basic tree place) = notes-fit tree (basic_type basic place) place
  notes-expr (is_of_class class class_place tree place) = notes-class_tested spec here place (in_class class) (one_expr tree no_exprs) locals
  notes-expr (is_of_base_class class class_place tree place) =
      notes-class_tested spec here place (in_base_class class) (one_expr tree no_exprs) locals
  notes-expr (same_class left right place) = notes-class_tested spec here place one_class (one_expr left (one_expr right no_exprs)) locals
  notes-expr (same_base_class left right place) =
      notes-class_tested spec here place one_base_class (one_expr left (one_expr right no_exprs)) locals
  notes-expr (create class class_place arguments place) = notes-created_with spec here place arguments class locals
  notes-expr (apply head arguments place) = notes-application spec here place a_value head arguments locals
  notes-expr (select target name name_place place) =
      notes-evaluated here locals target place (selected (of_thread spec) place name) (notes-selected spec here place name)
  notes-expr (select_of_class target class class_place name name_place place) =
      notes-evaluated here locals target place (selected_of_class (of_thread spec) place class name) (notes-selected_of_class spec here place class name)
  notes-expr (subsequence target from to place) = notes-strict here a_subsequence place (one_expr target (one_expr from (one_expr to no_exprs))) locals
  notes-expr (select_part target number place) = notes-strict here (a_component number) place (one_expr target no_exprs) locals
  notes-expr (let_in definitions body place) = notes-defined spec here place (length locals) definitions body locals
  notes-expr (let_be one condition body place) = notes-choosing here place spec (one_bind one no_binds) (takes_first condition body) locals
  notes-expr (def_in pattern tree body place) = notes-defined spec here place (length locals) (one_defined pattern None tree no_defined) body locals
  notes-expr (if_else condition then_tree elseifs otherwise place) = notes-branches spec here place (one_branch condition then_tree elseifs) otherwise locals
  notes-expr (cases_of subject alternatives others place) =
      notes-evaluated here locals subject place (cases_met spec here place alternatives others (length locals)) (notes-cases_met spec here place alternatives others (length locals))
  notes-expr (for_all binds condition place) = notes-choosing here place spec binds (for_each condition) locals
  notes-expr (exists_some binds condition place) = notes-choosing here place spec binds (for_some condition) locals
  notes-expr (exists_one one condition place) = notes-choosing here place spec (one_bind one no_binds) (for_one condition) locals
  notes-expr (iota_of one condition place) = notes-choosing here place spec (one_bind one no_binds) (the_one condition) locals
  notes-expr tree = tt
