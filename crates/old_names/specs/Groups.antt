-- The names with `~` in an expression, by groups of kinds: the walk has a table for each.
use Rattle.std.specs.Prelude.{List, [], ◌∷◌, ◌++◌}
use Rattle.vdm_kinds.specs.declared.name.Name.{Name}
use Rattle.abstract_syntax.specs.Expressions.{
  ExprTree,
  old_value,
  bracketed,
  prefixed,
  joined,
  set_enumeration,
  set_range,
  set_comprehension,
  map_enumeration,
  map_comprehension,
  sequence_enumeration,
  sequence_comprehension,
  make_tuple,
  make_token,
  make_record,
  modify_record,
  is_of_type,
  is_of_named,
  is_of_basic,
  is_of_class,
  is_of_base_class,
  same_class,
  same_base_class,
  create,
  apply,
  subsequence,
  select,
  select_of_class,
  select_part,
  let_in,
  let_be,
  def_in,
  if_else,
  cases_of,
  for_all,
  exists_some,
  exists_one,
  iota_of,
}
use Rattle.stmt_meaning.specs.Olds.{
  olds_in,
  olds_in_exprs,
  olds_in_maybe,
  olds_in_maplets,
  olds_in_field_values,
  olds_in_defined,
  olds_in_branches,
  olds_in_cases,
  olds_in_bind,
  olds_in_binds,
  olds_in_pattern,
}

-- of what reaches as far to the right as it can; of all else none
abbrev pub far_olds : ExprTree → List Name
far_olds (let_in definitions body place) = olds_in_defined definitions ++ olds_in body
far_olds (let_be bind condition body place) = olds_in_bind bind ++ (olds_in_maybe condition ++ olds_in body)
far_olds (def_in pattern value body place) = olds_in_pattern pattern ++ (olds_in value ++ olds_in body)
far_olds (if_else condition value elseifs otherwise place) = olds_in condition ++ (olds_in value ++ (olds_in_branches elseifs ++ olds_in otherwise))
far_olds (cases_of subject cases others place) = olds_in subject ++ (olds_in_cases cases ++ olds_in_maybe others)
far_olds (for_all binds condition place) = olds_in_binds binds ++ olds_in condition
far_olds (exists_some binds condition place) = olds_in_binds binds ++ olds_in condition
far_olds (exists_one bind condition place) = olds_in_bind bind ++ olds_in condition
far_olds (iota_of bind condition place) = olds_in_bind bind ++ olds_in condition
far_olds _ = []

-- of what makes a value of several ones; of all else none
abbrev pub made_olds : ExprTree → List Name
made_olds (set_enumeration elements place) = olds_in_exprs elements
made_olds (set_comprehension element binds condition place) = olds_in element ++ (olds_in_binds binds ++ olds_in_maybe condition)
made_olds (map_enumeration pairs place) = olds_in_maplets pairs
made_olds (map_comprehension key value binds condition place) = olds_in key ++ (olds_in value ++ (olds_in_binds binds ++ olds_in_maybe condition))
made_olds (sequence_enumeration items place) = olds_in_exprs items
made_olds (sequence_comprehension item pattern set condition place) = olds_in item ++ (olds_in_pattern pattern ++ (olds_in set ++ olds_in_maybe condition))
made_olds (make_tuple parts place) = olds_in_exprs parts
made_olds (make_record type_name fields place) = olds_in_exprs fields
made_olds (modify_record target fields place) = olds_in target ++ olds_in_field_values fields
made_olds (create class class_place arguments place) = olds_in_exprs arguments
made_olds _ = []

-- of an `x~`, of operators, tests and what stands behind its operand; of all else none
abbrev pub operand_olds : ExprTree → List Name
operand_olds (old_value name place) = name ∷ []
operand_olds (bracketed inner place) = olds_in inner
operand_olds (prefixed sign operand place) = olds_in operand
operand_olds (joined left sign right place) = olds_in left ++ olds_in right
operand_olds (set_range first last place) = olds_in first ++ olds_in last
operand_olds (make_token inner place) = olds_in inner
operand_olds (is_of_type tested declared place) = olds_in tested
operand_olds (is_of_named type_name tested place) = olds_in tested
operand_olds (is_of_basic basic tested place) = olds_in tested
operand_olds (is_of_class class class_place tested place) = olds_in tested
operand_olds (is_of_base_class class class_place tested place) = olds_in tested
operand_olds (same_class left right place) = olds_in left ++ olds_in right
operand_olds (same_base_class left right place) = olds_in left ++ olds_in right
operand_olds (apply head arguments place) = olds_in head ++ olds_in_exprs arguments
operand_olds (subsequence target first last place) = olds_in target ++ (olds_in first ++ olds_in last)
operand_olds (select target name name_place place) = olds_in target
operand_olds (select_of_class target class class_place name name_place place) = olds_in target
operand_olds (select_part target number place) = olds_in target
operand_olds _ = []
