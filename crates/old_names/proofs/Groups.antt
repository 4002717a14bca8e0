-- Each expression has what stands in it, whichever group it is of.
use Rattle.std.proofs.Common.{◌≡◌, List, ◌++◌, refl}
use Rattle.vdm_kinds.specs.declared.name.Name.{Name}
use Rattle.abstract_syntax.specs.Expressions.{
  ExprTree,
  literal,
  named,
  qualified,
  old_value,
  self_object,
  current_time,
  undefined,
  result_value,
  bracketed,
  prefixed,
  joined,
  set_enumeration,
  set_range,
  set_comprehension,
  empty_map,
  map_enumeration,
  map_comprehension,
  sequence_enumeration,
  sequence_comprehension,
  make_tuple,
  make_token,
  make_record,
  modify_record,
  is_of_type,
  is_of_named,
  is_of_basic,
  is_of_class,
  is_of_base_class,
  same_class,
  same_base_class,
  create,
  history,
  apply,
  subsequence,
  select,
  select_of_class,
  select_part,
  let_in,
  let_be,
  def_in,
  if_else,
  cases_of,
  for_all,
  exists_some,
  exists_one,
  iota_of,
}
use Rattle.stmt_meaning.specs.Olds.{olds_in}
use Rattle.old_names.specs.Groups.{far_olds, made_olds, operand_olds}

-- what the three groups have before others is what the expression has before them
pub one_group : (e : ExprTree) (rest : List Name) → operand_olds e ++ (made_olds e ++ (far_olds e ++ rest)) ≡ olds_in e ++ rest
one_group (literal value place) rest = refl
one_group (named name place) rest = refl
one_group (qualified class name name_place place) rest = refl
one_group (old_value name place) rest = refl
one_group (self_object place) rest = refl
one_group (current_time place) rest = refl
one_group (undefined place) rest = refl
one_group (result_value place) rest = refl
one_group (bracketed inner place) rest = refl
one_group (prefixed sign operand place) rest = refl
one_group (joined left sign right place) rest = refl
one_group (set_enumeration elements place) rest = refl
one_group (set_range first last place) rest = refl
one_group (set_comprehension element binds condition place) rest = refl
one_group (empty_map place) rest = refl
one_group (map_enumeration pairs place) rest = refl
one_group (map_comprehension key value binds condition place) rest = refl
one_group (sequence_enumeration items place) rest = refl
one_group (sequence_comprehension item pattern set condition place) rest = refl
one_group (make_tuple parts place) rest = refl
one_group (make_token inner place) rest = refl
one_group (make_record type_name fields place) rest = refl
one_group (modify_record target fields place) rest = refl
one_group (is_of_type tested declared place) rest = refl
one_group (is_of_named type_name tested place) rest = refl
one_group (is_of_basic basic tested place) rest = refl
one_group (is_of_class class class_place tested place) rest = refl
one_group (is_of_base_class class class_place tested place) rest = refl
one_group (same_class left right place) rest = refl
one_group (same_base_class left right place) rest = refl
one_group (create class class_place arguments place) rest = refl
one_group (history counter names place) rest = refl
one_group (apply head arguments place) rest = refl
one_group (subsequence target first last place) rest = refl
one_group (select target name name_place place) rest = refl
one_group (select_of_class target class class_place name name_place place) rest = refl
one_group (select_part target number place) rest = refl
one_group (let_in definitions body place) rest = refl
one_group (let_be bind condition body place) rest = refl
one_group (def_in pattern value body place) rest = refl
one_group (if_else condition value elseifs otherwise place) rest = refl
one_group (cases_of subject cases others place) rest = refl
one_group (for_all binds condition place) rest = refl
one_group (exists_some binds condition place) rest = refl
one_group (exists_one bind condition place) rest = refl
one_group (iota_of bind condition place) rest = refl
