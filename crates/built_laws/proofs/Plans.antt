-- What does nothing is undefined.
use Rattle.std.proofs.Common.{◌≡◌, true, false, List, None, refl, true≢false, ap}
use Rattle.vdm_kinds.specs.NameList.{io}
use Rattle.vdm_kinds.specs.declared.name.Name.{Name}
use Rattle.vdm_kinds.specs.declared.place.Place.{Place}
use Rattle.vdm_kinds.specs.declared.run_fault.RunFault.TheVariants.{TypeFault, Undefined}
use Rattle.abstract_syntax.specs.Expressions.{
  ExprTree,
  literal,
  named,
  qualified,
  old_value,
  self_object,
  current_time,
  undefined,
  result_value,
  bracketed,
  prefixed,
  joined,
  set_enumeration,
  set_range,
  set_comprehension,
  empty_map,
  map_enumeration,
  map_comprehension,
  sequence_enumeration,
  sequence_comprehension,
  make_tuple,
  make_token,
  make_record,
  modify_record,
  is_of_type,
  is_of_named,
  is_of_basic,
  is_of_class,
  is_of_base_class,
  same_class,
  same_base_class,
  create,
  apply,
  subsequence,
  select,
  select_of_class,
  select_part,
  let_in,
  let_be,
  def_in,
  if_else,
  cases_of,
  for_all,
  exists_some,
  exists_one,
  iota_of,
  expr_place,
}
use Rattle.abstract_syntax.specs.Statements.{TargetStepTree, variable_of_class}
use Rattle.abstract_syntax.specs.Classes.{SpecTree, is_same_name}
use Rattle.node_meaning.specs.Envs.{Locals, Here}
use Rattle.node_meaning.specs.Expressions.{expr_plan, bare_call}
use Rattle.node_meaning.specs.Needs.{Setting}
use Rattle.stmt_meaning.specs.Targets.{found_goal, goal_of}
use Rattle.node_meaning.specs.Tasks.{Declared, fault}
use Rattle.built_laws.specs.Meant.{has_plan}
use Rattle.built_laws.specs.MeantStmts.{is_application}
use Rattle.built_laws.proofs.OfIo.{no_variable}

not_so : {A : Type 0} → true ≡ false → A
not_so h = absurd (true≢false h)

pub no_plan : (setting : Setting) (here : Here) (locals : Locals) (tree : ExprTree) → has_plan tree ≡ false
    → expr_plan setting here locals tree ≡ fault Undefined (expr_place tree)
no_plan setting here locals (literal value place) h = not_so h
no_plan setting here locals (named name place) h = not_so h
no_plan setting here locals (qualified class name name_place place) h = not_so h
no_plan setting here locals (old_value name place) h = not_so h
no_plan setting here locals (self_object place) h = not_so h
no_plan setting here locals (current_time place) h = not_so h
no_plan setting here locals (undefined place) h = not_so h
no_plan setting here locals (result_value place) h = not_so h
no_plan setting here locals (bracketed inner place) h = not_so h
no_plan setting here locals (prefixed sign operand place) h = not_so h
no_plan setting here locals (joined left sign right place) h = not_so h
no_plan setting here locals (set_enumeration elements place) h = not_so h
no_plan setting here locals (set_range first last place) h = not_so h
no_plan setting here locals (set_comprehension element binds condition place) h = not_so h
no_plan setting here locals (empty_map place) h = not_so h
no_plan setting here locals (map_enumeration pairs place) h = not_so h
no_plan setting here locals (map_comprehension key value binds condition place) h = not_so h
no_plan setting here locals (sequence_enumeration items place) h = not_so h
no_plan setting here locals (sequence_comprehension item pattern set condition place) h = not_so h
no_plan setting here locals (make_tuple elements place) h = not_so h
no_plan setting here locals (make_token inner place) h = not_so h
no_plan setting here locals (make_record type_name fields place) h = not_so h
no_plan setting here locals (modify_record target fields place) h = not_so h
no_plan setting here locals (is_of_type tested declared place) h = not_so h
no_plan setting here locals (is_of_named type_name tested place) h = not_so h
no_plan setting here locals (is_of_basic basic tested place) h = not_so h
no_plan setting here locals (is_of_class class class_place tested place) h = not_so h
no_plan setting here locals (is_of_base_class class class_place tested place) h = not_so h
no_plan setting here locals (same_class left right place) h = not_so h
no_plan setting here locals (same_base_class left right place) h = not_so h
no_plan setting here locals (create class class_place arguments place) h = not_so h
no_plan setting here locals (apply head arguments place) h = not_so h
no_plan setting here locals (subsequence target first last place) h = not_so h
no_plan setting here locals (select target name name_place place) h = not_so h
no_plan setting here locals (select_of_class target class class_place name name_place place) h = not_so h
no_plan setting here locals (select_part target n place) h = not_so h
no_plan setting here locals (let_in definitions body place) h = not_so h
no_plan setting here locals (let_be bind condition body place) h = not_so h
no_plan setting here locals (def_in pattern value body place) h = not_so h
no_plan setting here locals (if_else condition value elseifs otherwise place) h = not_so h
no_plan setting here locals (cases_of subject cases others place) h = not_so h
no_plan setting here locals (for_all binds condition place) h = not_so h
no_plan setting here locals (exists_some binds condition place) h = not_so h
no_plan setting here locals (exists_one bind condition place) h = not_so h
no_plan setting here locals (iota_of bind condition place) h = not_so h
no_plan setting here locals tree h = refl

-- `IO` has no variable that is written to
pub not_written : (spec : SpecTree) (here : Here) (declared : Declared) (class name : Name) (name_place : Place) (steps : List TargetStepTree) (place : Place)
    → is_same_name class io ≡ true → goal_of spec here declared (variable_of_class class name name_place steps place) ≡ None
not_written spec here declared class name name_place steps place h = ap (found_goal spec here) (no_variable spec class name h)

pub not_called : (setting : Setting) (here : Here) (locals : Locals) (tree : ExprTree) → is_application tree ≡ false
    → bare_call setting here locals tree ≡ fault TypeFault (expr_place tree)
not_called setting here locals (apply head arguments place) h = not_so h
not_called setting here locals tree h = refl
