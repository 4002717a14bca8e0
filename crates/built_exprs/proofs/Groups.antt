-- An expression is of one group.
use Rattle.std.proofs.Common.{◌≡◌, Bool, Option, Some, None, refl}
use Rattle.abstract_syntax.specs.Expressions.{
  ExprTree,
  literal,
  named,
  qualified,
  old_value,
  self_object,
  current_time,
  undefined,
  result_value,
  bracketed,
  prefixed,
  joined,
  set_enumeration,
  set_range,
  set_comprehension,
  empty_map,
  map_enumeration,
  map_comprehension,
  sequence_enumeration,
  sequence_comprehension,
  make_tuple,
  make_token,
  make_record,
  modify_record,
  is_of_type,
  is_of_named,
  is_of_basic,
  is_of_class,
  is_of_base_class,
  same_class,
  same_base_class,
  create,
  history,
  apply,
  subsequence,
  select,
  select_of_class,
  select_part,
  let_in,
  let_be,
  def_in,
  if_else,
  cases_of,
  for_all,
  exists_some,
  exists_one,
  iota_of,
}
use Rattle.text_phases.specs.Built.{or_behind, unbuilt_in_expr}
use Rattle.built_nodes.specs.LeftOut.{left_out_here}
use Rattle.built_exprs.specs.Groups.{in_operands, in_bound, in_listed}

nothing_behind : {A : Type 0} (first : Option A) → or_behind first None ≡ first
nothing_behind None = refl
nothing_behind (Some a) = refl

pub four_groups : (makes : Bool) (e : ExprTree)
    → or_behind (in_operands makes e) (or_behind (in_bound makes e) (or_behind (in_listed makes e) (left_out_here e))) ≡ unbuilt_in_expr makes e
four_groups makes (literal value place) = refl
four_groups makes (named name place) = refl
four_groups makes (qualified class name name_place place) = refl
four_groups makes (old_value name place) = refl
four_groups makes (self_object place) = refl
four_groups makes (current_time place) = refl
four_groups makes (undefined place) = refl
four_groups makes (result_value place) = refl
four_groups makes (bracketed inner place) = nothing_behind (unbuilt_in_expr makes (bracketed inner place))
four_groups makes (prefixed sign operand place) = nothing_behind (unbuilt_in_expr makes (prefixed sign operand place))
four_groups makes (joined left sign right place) = nothing_behind (unbuilt_in_expr makes (joined left sign right place))
four_groups makes (set_enumeration elements place) = nothing_behind (unbuilt_in_expr makes (set_enumeration elements place))
four_groups makes (set_range first last place) = nothing_behind (unbuilt_in_expr makes (set_range first last place))
four_groups makes (set_comprehension element binds condition place) = nothing_behind (unbuilt_in_expr makes (set_comprehension element binds condition place))
four_groups makes (empty_map place) = refl
four_groups makes (map_enumeration pairs place) = nothing_behind (unbuilt_in_expr makes (map_enumeration pairs place))
four_groups makes (map_comprehension key value binds condition place) = nothing_behind (unbuilt_in_expr makes (map_comprehension key value binds condition place))
four_groups makes (sequence_enumeration items place) = nothing_behind (unbuilt_in_expr makes (sequence_enumeration items place))
four_groups makes (sequence_comprehension item pattern set condition place) = nothing_behind (unbuilt_in_expr makes (sequence_comprehension item pattern set condition place))
four_groups makes (make_tuple parts place) = nothing_behind (unbuilt_in_expr makes (make_tuple parts place))
four_groups makes (make_token inner place) = nothing_behind (unbuilt_in_expr makes (make_token inner place))
four_groups makes (make_record type_name fields place) = nothing_behind (unbuilt_in_expr makes (make_record type_name fields place))
four_groups makes (modify_record target fields place) = nothing_behind (unbuilt_in_expr makes (modify_record target fields place))
four_groups makes (is_of_type tested declared place) = nothing_behind (unbuilt_in_expr makes (is_of_type tested declared place))
four_groups makes (is_of_named type_name tested place) = nothing_behind (unbuilt_in_expr makes (is_of_named type_name tested place))
four_groups makes (is_of_basic basic tested place) = nothing_behind (unbuilt_in_expr makes (is_of_basic basic tested place))
four_groups makes (is_of_class class class_place tested place) = nothing_behind (unbuilt_in_expr makes (is_of_class class class_place tested place))
four_groups makes (is_of_base_class class class_place tested place) = nothing_behind (unbuilt_in_expr makes (is_of_base_class class class_place tested place))
four_groups makes (same_class left right place) = nothing_behind (unbuilt_in_expr makes (same_class left right place))
four_groups makes (same_base_class left right place) = nothing_behind (unbuilt_in_expr makes (same_base_class left right place))
four_groups makes (create class class_place arguments place) = nothing_behind (unbuilt_in_expr makes (create class class_place arguments place))
four_groups makes (history counter names place) = refl
four_groups makes (apply head arguments place) = nothing_behind (unbuilt_in_expr makes (apply head arguments place))
four_groups makes (subsequence target first last place) = nothing_behind (unbuilt_in_expr makes (subsequence target first last place))
four_groups makes (select target name name_place place) = nothing_behind (unbuilt_in_expr makes (select target name name_place place))
four_groups makes (select_of_class target class class_place name name_place place) = nothing_behind (unbuilt_in_expr makes (select_of_class target class class_place name name_place place))
four_groups makes (select_part target number place) = nothing_behind (unbuilt_in_expr makes (select_part target number place))
four_groups makes (let_in definitions body place) = nothing_behind (unbuilt_in_expr makes (let_in definitions body place))
four_groups makes (let_be bind condition body place) = nothing_behind (unbuilt_in_expr makes (let_be bind condition body place))
four_groups makes (def_in pattern value body place) = nothing_behind (unbuilt_in_expr makes (def_in pattern value body place))
four_groups makes (if_else condition value elseifs otherwise place) = nothing_behind (unbuilt_in_expr makes (if_else condition value elseifs otherwise place))
four_groups makes (cases_of subject cases others place) = nothing_behind (unbuilt_in_expr makes (cases_of subject cases others place))
four_groups makes (for_all binds condition place) = nothing_behind (unbuilt_in_expr makes (for_all binds condition place))
four_groups makes (exists_some binds condition place) = nothing_behind (unbuilt_in_expr makes (exists_some binds condition place))
four_groups makes (exists_one bind condition place) = nothing_behind (unbuilt_in_expr makes (exists_one bind condition place))
four_groups makes (iota_of bind condition place) = nothing_behind (unbuilt_in_expr makes (iota_of bind condition place))
