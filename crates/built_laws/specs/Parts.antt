-- The expressions that stand right in another one, in text order: those that are evaluated for it or among what it binds.
use Rattle.std.specs.Prelude.{List, [], ◌∷◌, ◌++◌, Option, Some, None}
use Rattle.abstract_syntax.specs.Expressions.{
  ExprTree,
  ExprTrees,
  MaybeExpr,
  MapletTrees,
  FieldValueTrees,
  DefinedTrees,
  BranchTrees,
  CaseTrees,
  BindTree,
  BindTrees,
  literal,
  named,
  qualified,
  old_value,
  self_object,
  current_time,
  undefined,
  result_value,
  bracketed,
  prefixed,
  joined,
  set_enumeration,
  set_range,
  set_comprehension,
  empty_map,
  map_enumeration,
  map_comprehension,
  sequence_enumeration,
  sequence_comprehension,
  make_tuple,
  make_token,
  make_record,
  modify_record,
  is_of_type,
  is_of_named,
  is_of_basic,
  is_of_class,
  is_of_base_class,
  same_class,
  same_base_class,
  create,
  apply,
  subsequence,
  select,
  select_of_class,
  select_part,
  let_in,
  let_be,
  def_in,
  if_else,
  cases_of,
  for_all,
  exists_some,
  exists_one,
  iota_of,
  no_exprs,
  one_expr,
  left_out,
  given_expr,
  no_maplets,
  one_maplet,
  no_field_values,
  one_field_value,
  no_defined,
  one_defined,
  no_branches,
  one_branch,
  no_cases,
  one_case,
  bind_in,
  no_binds,
  one_bind,
}
use Rattle.pattern_meaning.specs.Brackets.{given_in, given_in_each}

-- ---- lists

abbrev pub exprs_in : ExprTrees → List ExprTree
exprs_in no_exprs = []
exprs_in (one_expr tree trees) = tree ∷ exprs_in trees

abbrev pub maybe_in : MaybeExpr → List ExprTree
maybe_in left_out = []
maybe_in (given_expr tree) = tree ∷ []

abbrev pub given_part : Option ExprTree → List ExprTree
given_part None = []
given_part (Some part) = part ∷ []

abbrev pub maplets_in : MapletTrees → List ExprTree
maplets_in no_maplets = []
maplets_in (one_maplet key value pairs) = key ∷ value ∷ maplets_in pairs

abbrev pub field_values_in : FieldValueTrees → List ExprTree
field_values_in no_field_values = []
field_values_in (one_field_value name name_place value fields) = value ∷ field_values_in fields

abbrev pub definitions_in : DefinedTrees → List ExprTree
definitions_in no_defined = []
definitions_in (one_defined pattern declared value definitions) = given_in pattern ++ (value ∷ definitions_in definitions)

abbrev pub branches_in : BranchTrees → List ExprTree
branches_in no_branches = []
branches_in (one_branch condition value others) = condition ∷ value ∷ branches_in others

abbrev pub cases_in : CaseTrees → List ExprTree
cases_in no_cases = []
cases_in (one_case patterns value cases) = given_in_each patterns ++ (value ∷ cases_in cases)

abbrev pub bind_parts : BindTree → List ExprTree
bind_parts (bind_in patterns set) = given_in_each patterns ++ (set ∷ [])

abbrev pub binds_in : BindTrees → List ExprTree
binds_in no_binds = []
binds_in (one_bind bind binds) = bind_parts bind ++ binds_in binds

-- ---- all kinds that have a meaning

abbrev pub parts : ExprTree → List ExprTree
parts (literal value place) = []
parts (named name place) = []
parts (qualified class name name_place place) = []
parts (old_value name place) = []
parts (self_object place) = []
parts (current_time place) = []
parts (undefined place) = []
parts (result_value place) = []
parts (bracketed inner place) = inner ∷ []
parts (prefixed sign operand place) = operand ∷ []
parts (joined left sign right place) = left ∷ right ∷ []
parts (set_enumeration elements place) = exprs_in elements
parts (set_range first last place) = first ∷ last ∷ []
parts (set_comprehension element binds condition place) = element ∷ (binds_in binds ++ maybe_in condition)
parts (empty_map place) = []
parts (map_enumeration pairs place) = maplets_in pairs
parts (map_comprehension key value binds condition place) = key ∷ value ∷ (binds_in binds ++ maybe_in condition)
parts (sequence_enumeration items place) = exprs_in items
parts (sequence_comprehension item pattern set condition place) = item ∷ (given_in pattern ++ (set ∷ maybe_in condition))
parts (make_tuple elements place) = exprs_in elements
parts (make_token inner place) = inner ∷ []
parts (make_record type_name fields place) = exprs_in fields
parts (modify_record target fields place) = target ∷ field_values_in fields
parts (is_of_type tested declared place) = tested ∷ []
parts (is_of_named type_name tested place) = tested ∷ []
parts (is_of_basic basic tested place) = tested ∷ []
parts (is_of_class class class_place tested place) = tested ∷ []
parts (is_of_base_class class class_place tested place) = tested ∷ []
parts (same_class left right place) = left ∷ right ∷ []
parts (same_base_class left right place) = left ∷ right ∷ []
parts (create class class_place arguments place) = exprs_in arguments
parts (apply head arguments place) = head ∷ exprs_in arguments
parts (subsequence target first last place) = target ∷ first ∷ last ∷ []
parts (select target name name_place place) = target ∷ []
parts (select_of_class target class class_place name name_place place) = target ∷ []
parts (select_part target number place) = target ∷ []
parts (let_in definitions body place) = definitions_in definitions ++ (body ∷ [])
parts (let_be bind condition body place) = bind_parts bind ++ (maybe_in condition ++ (body ∷ []))
parts (def_in pattern value body place) = given_in pattern ++ (value ∷ body ∷ [])
parts (if_else condition value elseifs otherwise place) = condition ∷ value ∷ (branches_in elseifs ++ (otherwise ∷ []))
parts (cases_of subject cases others place) = subject ∷ (cases_in cases ++ maybe_in others)
parts (for_all binds condition place) = binds_in binds ++ (condition ∷ [])
parts (exists_some binds condition place) = binds_in binds ++ (condition ∷ [])
parts (exists_one bind condition place) = bind_parts bind ++ (condition ∷ [])
parts (iota_of bind condition place) = bind_parts bind ++ (condition ∷ [])
parts _ = []
