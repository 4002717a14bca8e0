-- The first form that is not built of an expression, by groups of kinds: the program has a table for each.
use Rattle.std.specs.Prelude.{Bool, Option, None}
use Rattle.vdm_kinds.specs.declared.place.Place.{Place}
use Rattle.abstract_syntax.specs.Expressions.{
  ExprTree,
  bracketed,
  prefixed,
  joined,
  set_enumeration,
  set_range,
  set_comprehension,
  map_enumeration,
  map_comprehension,
  sequence_enumeration,
  sequence_comprehension,
  make_tuple,
  make_token,
  make_record,
  modify_record,
  is_of_type,
  is_of_named,
  is_of_basic,
  is_of_class,
  is_of_base_class,
  same_class,
  same_base_class,
  create,
  apply,
  subsequence,
  select,
  select_of_class,
  select_part,
  let_in,
  let_be,
  def_in,
  if_else,
  cases_of,
  for_all,
  exists_some,
  exists_one,
  iota_of,
}
use Rattle.text_phases.specs.Built.{
  or_behind,
  unless,
  unbuilt_in_expr,
  unbuilt_in_exprs,
  unbuilt_in_maybe,
  unbuilt_in_maplets,
  unbuilt_in_field_values,
  unbuilt_in_defined,
  unbuilt_in_branches,
  unbuilt_in_cases,
  unbuilt_in_bind,
  unbuilt_in_binds,
  unbuilt_in_pattern,
}

-- of operators and of what stands behind its operand; of all else nothing
abbrev pub in_operands : Bool → ExprTree → Option Place
in_operands makes (bracketed inner place) = unbuilt_in_expr makes inner
in_operands makes (prefixed sign operand place) = unbuilt_in_expr makes operand
in_operands makes (joined left sign right place) = or_behind (unbuilt_in_expr makes left) (unbuilt_in_expr makes right)
in_operands makes (set_range first last place) = or_behind (unbuilt_in_expr makes first) (unbuilt_in_expr makes last)
in_operands makes (make_token inner place) = unbuilt_in_expr makes inner
in_operands makes (is_of_type tested declared place) = unbuilt_in_expr makes tested
in_operands makes (is_of_named type_name tested place) = unbuilt_in_expr makes tested
in_operands makes (is_of_basic basic tested place) = unbuilt_in_expr makes tested
in_operands makes (is_of_class class class_place tested place) = unbuilt_in_expr makes tested
in_operands makes (is_of_base_class class class_place tested place) = unbuilt_in_expr makes tested
in_operands makes (same_class left right place) = or_behind (unbuilt_in_expr makes left) (unbuilt_in_expr makes right)
in_operands makes (same_base_class left right place) = or_behind (unbuilt_in_expr makes left) (unbuilt_in_expr makes right)
in_operands makes (apply head arguments place) = or_behind (unbuilt_in_expr makes head) (unbuilt_in_exprs makes arguments)
in_operands makes (subsequence target first last place) =
    or_behind (unbuilt_in_expr makes target) (or_behind (unbuilt_in_expr makes first) (unbuilt_in_expr makes last))
in_operands makes (select target name name_place place) = unbuilt_in_expr makes target
in_operands makes (select_of_class target class class_place name name_place place) = unbuilt_in_expr makes target
in_operands makes (select_part target number place) = unbuilt_in_expr makes target
in_operands makes _ = None

-- of what has binds; of all else nothing
abbrev pub in_bound : Bool → ExprTree → Option Place
in_bound makes (set_comprehension element binds condition place) =
    or_behind (unbuilt_in_expr makes element) (or_behind (unbuilt_in_binds makes binds) (unbuilt_in_maybe makes condition))
in_bound makes (map_comprehension key value binds condition place) =
    or_behind (unbuilt_in_expr makes key)
    (or_behind (unbuilt_in_expr makes value) (or_behind (unbuilt_in_binds makes binds) (unbuilt_in_maybe makes condition)))
in_bound makes (sequence_comprehension item pattern set condition place) =
    or_behind (unbuilt_in_expr makes item)
    (or_behind (unbuilt_in_pattern makes pattern) (or_behind (unbuilt_in_expr makes set) (unbuilt_in_maybe makes condition)))
in_bound makes (let_be bind condition body place) =
    or_behind (unbuilt_in_bind makes bind) (or_behind (unbuilt_in_maybe makes condition) (unbuilt_in_expr makes body))
in_bound makes (for_all binds condition place) = or_behind (unbuilt_in_binds makes binds) (unbuilt_in_expr makes condition)
in_bound makes (exists_some binds condition place) = or_behind (unbuilt_in_binds makes binds) (unbuilt_in_expr makes condition)
in_bound makes (exists_one bind condition place) = or_behind (unbuilt_in_bind makes bind) (unbuilt_in_expr makes condition)
in_bound makes (iota_of bind condition place) = or_behind (unbuilt_in_bind makes bind) (unbuilt_in_expr makes condition)
in_bound makes _ = None

-- of what has other lists, and of a `def`; of all else nothing
abbrev pub in_listed : Bool → ExprTree → Option Place
in_listed makes (set_enumeration elements place) = unbuilt_in_exprs makes elements
in_listed makes (map_enumeration pairs place) = unbuilt_in_maplets makes pairs
in_listed makes (sequence_enumeration items place) = unbuilt_in_exprs makes items
in_listed makes (make_tuple parts place) = unbuilt_in_exprs makes parts
in_listed makes (make_record type_name fields place) = unbuilt_in_exprs makes fields
in_listed makes (modify_record target fields place) = or_behind (unbuilt_in_expr makes target) (unbuilt_in_field_values makes fields)
in_listed makes (create class class_place arguments place) = or_behind (unless makes place) (unbuilt_in_exprs makes arguments)
in_listed makes (let_in definitions body place) = or_behind (unbuilt_in_defined makes definitions) (unbuilt_in_expr makes body)
in_listed makes (def_in pattern value body place) =
    or_behind (unbuilt_in_pattern makes pattern) (or_behind (unbuilt_in_expr makes value) (unbuilt_in_expr makes body))
in_listed makes (if_else condition value elseifs otherwise place) =
    or_behind (unbuilt_in_expr makes condition)
    (or_behind (unbuilt_in_expr makes value) (or_behind (unbuilt_in_branches makes elseifs) (unbuilt_in_expr makes otherwise)))
in_listed makes (cases_of subject cases others place) =
    or_behind (unbuilt_in_expr makes subject) (or_behind (unbuilt_in_cases makes cases) (unbuilt_in_maybe makes others))
in_listed makes _ = None
