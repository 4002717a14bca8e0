-- Expressions keep the rules of journals.
use Rattle.std.proofs.Common.{[], List, None, Some, length}
use Rattle.vdm_kinds.specs.declared.operator.Operator.TheVariants.{Interval}
use Rattle.vdm_kinds.specs.declared.place.Place.{Place}
use Rattle.vdm_kinds.specs.declared.run_fault.RunFault.TheVariants.{Undefined}
use Rattle.vdm_kinds.specs.Signs.{sign_operator}
use Rattle.abstract_syntax.specs.Classes.{SpecTree}
use Rattle.abstract_syntax.specs.Values.{map_of, no_pairs}
use Rattle.abstract_syntax.specs.Literals.{LiteralTree}
use Rattle.abstract_syntax.specs.Types.{TypeTree, basic_type, named_type}
use Rattle.abstract_syntax.specs.Expressions.{BindTrees, ExprTree, ExprTrees, apply, bind_in, bracketed, cases_of, create, current_time, def_in, empty_map, exists_one, exists_some, expr_place, for_all, if_else, iota_of, is_of_base_class, is_of_basic, is_of_class, is_of_named, is_of_type, joined, let_be, let_in, literal, make_record, make_token, make_tuple, map_comprehension, map_enumeration, modify_record, named, no_binds, no_defined, no_exprs, no_patterns, old_value, one_bind, one_branch, one_defined, one_expr, one_pattern, prefixed, qualified, result_value, same_base_class, same_class, select, select_of_class, select_part, self_object, sequence_comprehension, sequence_enumeration, set_comprehension, set_enumeration, set_range, subsequence}
use Rattle.value_operators.specs.Outcomes.{sized}
use Rattle.pattern_meaning.specs.Ways.{literal_value}
use Rattle.value_parts.proofs.Gathered.{sized_keeps}
use Rattle.value_parts.proofs.WayObjects.{literal_keeps}
use Rattle.run_journal.specs.declared.entry.Entry.{Entry}
use Rattle.vdm_legal.proofs.Known.{IsThere}
use Rattle.node_meaning.specs.ClassTests.{in_base_class, in_class, one_base_class, one_class}
use Rattle.node_meaning.specs.Envs.{Here, Locals, local_named, result_name, old_name}
use Rattle.node_meaning.specs.Records.{field_exprs, field_names, record_changed, record_made, record_type}
use Rattle.node_meaning.specs.Tasks.{evaluated, value_or_fault}
use Rattle.node_meaning.specs.Wanted.{a_value}
use Rattle.node_meaning.specs.Strict.{Strict, a_component, a_map, a_sequence, a_set, a_subsequence, a_token, a_tuple, maplet_exprs, strict, two_operands}
use Rattle.node_meaning.specs.Choosing.{Chooser, choosing, collects, for_each, for_one, for_some, takes_first, the_one}
use Rattle.node_meaning.specs.Expressions.{cases_met, expr_plan, fit_value, selected, selected_of_class}
use Rattle.stmt_meaning.specs.Questions.{of_thread}
use Rattle.vdm_meaning.proofs.Rules.{IsSafe}
use Rattle.vdm_meaning.proofs.Parts.{IsAt, may-fail, safe-become, safe-evaluated, safe-value}
use Rattle.vdm_meaning.proofs.Strict.{safe-collected, safe-strict, safe-value_or_fault}
use Rattle.vdm_meaning.proofs.Fitting.{safe-fit_value}
use Rattle.vdm_meaning.proofs.Records.{safe-record_changed, safe-record_of_type}
use Rattle.vdm_meaning.proofs.Choosing.{safe-choosing}
use Rattle.vdm_meaning.proofs.Names.{local-known, safe-held, safe-name, safe-selected, safe-selected_of_class, safe-self, safe-value_named}
use Rattle.vdm_meaning.proofs.Applications.{safe-application, safe-class_tested, safe-created_with, safe-time_told}
use Rattle.vdm_meaning.proofs.Chosen.{safe-branches, safe-cases_met, safe-defined, safe-joined_by, safe-prefixed_by}

module _ (spec : SpecTree) (first now : List Entry) (here : Here) (locals : Locals) (is_at : IsAt spec first now here locals) where
  safe-literal : (tree : LiteralTree) (place : Place) → IsSafe spec first now (value_or_fault place (sized (literal_value tree)) locals)
  safe-literal tree place =
      safe-value_or_fault spec place (sized (literal_value tree)) is_at
      (sized_keeps (IsThere spec now) (literal_value tree) (literal_keeps (IsThere spec now) tree))

  safe-strictly : (what : Strict) (place : Place) (trees : ExprTrees) → IsSafe spec first now (strict here what place trees locals)
  safe-strictly what place trees = safe-strict spec first now here what place trees locals is_at

  safe-chosen : (place : Place) (binds : BindTrees) (chooser : Chooser) → IsSafe spec first now (choosing spec here place binds chooser locals)
  safe-chosen place binds chooser = safe-choosing spec first here place now binds chooser locals is_at

  safe-fit : (tree : ExprTree) (t : TypeTree) (place : Place) → IsSafe spec first now (evaluated here locals tree place (fit_value spec here.nest here.scope t place))
  safe-fit tree t place =
      safe-evaluated spec first now here locals tree place (fit_value spec here.nest here.scope t place) is_at (λ later v after w at_later known.
      safe-fit_value spec first later here after at_later here.nest here.scope place v known t)

  pub safe-expr : (tree : ExprTree) → IsSafe spec first now (expr_plan (of_thread spec) here locals tree)
  safe-expr (literal tree place) = safe-literal tree place
  safe-expr (named name place) = safe-name spec first now here place locals is_at name (local_named locals name) (local-known spec now locals name is_at.may.known)
  safe-expr (qualified class name name_place place) = safe-value_named spec first now here place locals is_at (Some class) name
  safe-expr (old_value name place) =
      safe-held spec first now here place locals is_at (local_named locals (old_name name)) (local-known spec now locals (old_name name) is_at.may.known)
  safe-expr (self_object place) = safe-self spec first now here place locals is_at here.me here.own is_at.may.me
  safe-expr (current_time place) = safe-time_told spec first now here place locals is_at
  safe-expr (result_value place) =
      safe-held spec first now here place locals is_at (local_named locals result_name) (local-known spec now locals result_name is_at.may.known)
  safe-expr (bracketed inner place) = safe-become spec first now here locals inner is_at
  safe-expr (prefixed sign tree place) = safe-prefixed_by spec first here place now (sign_operator sign) tree locals is_at
  safe-expr (joined left sign right place) = safe-joined_by spec first here place now (sign_operator sign) left sign right locals is_at
  safe-expr (set_enumeration elements place) = safe-strictly a_set place elements
  safe-expr (set_range from to place) = safe-strictly (two_operands Interval) place (one_expr from (one_expr to no_exprs))
  safe-expr (set_comprehension element binds condition place) = safe-chosen place binds (collects a_set (one_expr element no_exprs) condition)
  safe-expr (empty_map place) = safe-value spec (map_of no_pairs) is_at tt
  safe-expr (map_enumeration maplets place) = safe-strictly a_map place (maplet_exprs maplets)
  safe-expr (map_comprehension key held binds condition place) = safe-chosen place binds (collects a_map (one_expr key (one_expr held no_exprs)) condition)
  safe-expr (sequence_enumeration items place) = safe-strictly a_sequence place items
  safe-expr (sequence_comprehension item pattern set condition place) =
      safe-chosen place (one_bind (bind_in (one_pattern pattern no_patterns) set) no_binds) (collects a_sequence (one_expr item no_exprs) condition)
  safe-expr (make_tuple parts place) = safe-strictly a_tuple place parts
  safe-expr (make_token inner place) = safe-strictly a_token place (one_expr inner no_exprs)
  safe-expr (make_record t arguments place) =
      safe-collected spec first now here place arguments [] (record_made spec here.nest here.scope t place) locals is_at tt (λ later vs after w at_later known.
      safe-record_of_type spec first here place later here.nest (record_type spec here.scope t) vs after at_later known)
  safe-expr (modify_record target changes place) =
      safe-collected spec first now here place (one_expr target (field_exprs changes)) [] (record_changed spec here.nest (field_names changes) place) locals is_at tt (λ later vs after w at_later known.
      safe-record_changed spec first here place later here.nest (field_names changes) vs after at_later known)
  safe-expr (is_of_type tree t place) = safe-fit tree t place
  safe-expr (is_of_named t tree place) = safe-fit tree (named_type t place) place
  safe-expr (is_of_basic basic tree place) = safe-fit tree (basic_type basic place) place
  safe-expr (is_of_class class class_place tree place) = safe-class_tested spec first now here place locals is_at (in_class class) (one_expr tree no_exprs)
  safe-expr (is_of_base_class class class_place tree place) =
      safe-class_tested spec first now here place locals is_at (in_base_class class) (one_expr tree no_exprs)
  safe-expr (same_class left right place) =
      safe-class_tested spec first now here place locals is_at one_class (one_expr left (one_expr right no_exprs))
  safe-expr (same_base_class left right place) =
      safe-class_tested spec first now here place locals is_at one_base_class (one_expr left (one_expr right no_exprs))
  safe-expr (create class class_place arguments place) = safe-created_with spec first now here place locals is_at arguments class
  safe-expr (apply head arguments place) = safe-application spec first now here head arguments place a_value locals is_at
  safe-expr (select target name name_place place) =
      safe-evaluated spec first now here locals target place (selected (of_thread spec) place name) is_at (λ later v after w at_later known.
      safe-selected spec first later here place after at_later name v known)
  safe-expr (select_of_class target class class_place name name_place place) =
      safe-evaluated spec first now here locals target place (selected_of_class (of_thread spec) place class name) is_at (λ later v after w at_later known.
      safe-selected_of_class spec first later here place after at_later class name v known)
  safe-expr (subsequence target from to place) = safe-strictly a_subsequence place (one_expr target (one_expr from (one_expr to no_exprs)))
  safe-expr (select_part target number place) = safe-strictly (a_component number) place (one_expr target no_exprs)
  safe-expr (let_in definitions body place) = safe-defined spec first here place definitions now (length locals) body locals is_at
  safe-expr (let_be bind_tree condition body place) = safe-chosen place (one_bind bind_tree no_binds) (takes_first condition body)
  safe-expr (def_in pattern tree body place) =
      safe-defined spec first here place (one_defined pattern None tree no_defined) now (length locals) body locals is_at
  safe-expr (if_else condition then_tree elseifs otherwise place) =
      safe-branches spec first here place (one_branch condition then_tree elseifs) now otherwise locals is_at
  safe-expr (cases_of subject alternatives others place) =
      safe-evaluated spec first now here locals subject place (cases_met spec here place alternatives others (length locals)) is_at (λ later v after w at_later known.
      safe-cases_met spec first here place alternatives later others (length locals) v after at_later known)
  safe-expr (for_all binds condition place) = safe-chosen place binds (for_each condition)
  safe-expr (exists_some binds condition place) = safe-chosen place binds (for_some condition)
  safe-expr (exists_one bind_tree condition place) = safe-chosen place (one_bind bind_tree no_binds) (for_one condition)
  safe-expr (iota_of bind_tree condition place) = safe-chosen place (one_bind bind_tree no_binds) (the_one condition)
  safe-expr tree = may-fail spec Undefined (expr_place tree) is_at.may
