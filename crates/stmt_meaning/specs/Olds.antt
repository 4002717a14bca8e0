-- The variables that stand with `~` in `post`: each is read before the body runs.
use Rattle.std.specs.Prelude.{ℕ, List, [], ◌∷◌, ◌++◌, Option, Some, None}
use Rattle.vdm_kinds.specs.declared.member.VarRef.{VarRef}
use Rattle.vdm_kinds.specs.declared.name.Name.{Name}
use Rattle.abstract_syntax.specs.Classes.{SpecTree}
use Rattle.abstract_syntax.specs.Expressions.{
  ExprTree,
  ExprTrees,
  MaybeExpr,
  MapletTrees,
  FieldValueTrees,
  DefinedTrees,
  BranchTrees,
  CaseTrees,
  BindTree,
  BindTrees,
  PatternTree,
  PatternTrees,
  MapletPatterns,
  literal,
  named,
  qualified,
  old_value,
  self_object,
  current_time,
  undefined,
  result_value,
  bracketed,
  prefixed,
  joined,
  set_enumeration,
  set_range,
  set_comprehension,
  empty_map,
  map_enumeration,
  map_comprehension,
  sequence_enumeration,
  sequence_comprehension,
  make_tuple,
  make_token,
  make_record,
  modify_record,
  is_of_type,
  is_of_named,
  is_of_basic,
  is_of_class,
  is_of_base_class,
  same_class,
  same_base_class,
  create,
  history,
  apply,
  subsequence,
  select,
  select_of_class,
  select_part,
  let_in,
  let_be,
  def_in,
  if_else,
  cases_of,
  for_all,
  exists_some,
  exists_one,
  iota_of,
  no_exprs,
  one_expr,
  left_out,
  given_expr,
  no_maplets,
  one_maplet,
  no_field_values,
  one_field_value,
  no_defined,
  one_defined,
  no_branches,
  one_branch,
  no_cases,
  one_case,
  bind_in,
  no_binds,
  one_bind,
  any_value,
  bound,
  literal_pattern,
  equal_to,
  set_pattern,
  sequence_pattern,
  map_pattern,
  empty_map_pattern,
  tuple_pattern,
  record_pattern,
  concatenation_pattern,
  no_patterns,
  one_pattern,
  no_maplet_patterns,
  one_maplet_pattern,
}
use Rattle.class_meaning.specs.Objects.{first_names}
use Rattle.node_meaning.specs.Names.{variable_in, variable_home}
use Rattle.stmt_meaning.specs.Calling.{Calling}

-- ---- names with `~`, in text order

abbrev mutual
  -- in an expression, one line a kind
  pub olds_in : ExprTree → List Name
  olds_in (literal value place) = []
  olds_in (named name place) = []
  olds_in (qualified class name name_place place) = []
  olds_in (old_value name place) = name ∷ []
  olds_in (self_object place) = []
  olds_in (current_time place) = []
  olds_in (undefined place) = []
  olds_in (result_value place) = []
  olds_in (bracketed inner place) = olds_in inner
  olds_in (prefixed sign operand place) = olds_in operand
  olds_in (joined left sign right place) = olds_in left ++ olds_in right
  olds_in (set_enumeration elements place) = olds_in_exprs elements
  olds_in (set_range first last place) = olds_in first ++ olds_in last
  olds_in (set_comprehension element binds condition place) = olds_in element ++ (olds_in_binds binds ++ olds_in_maybe condition)
  olds_in (empty_map place) = []
  olds_in (map_enumeration pairs place) = olds_in_maplets pairs
  olds_in (map_comprehension key value binds condition place) =
      olds_in key ++ (olds_in value ++ (olds_in_binds binds ++ olds_in_maybe condition))
  olds_in (sequence_enumeration items place) = olds_in_exprs items
  olds_in (sequence_comprehension item pattern set condition place) =
      olds_in item ++ (olds_in_pattern pattern ++ (olds_in set ++ olds_in_maybe condition))
  olds_in (make_tuple parts place) = olds_in_exprs parts
  olds_in (make_token inner place) = olds_in inner
  olds_in (make_record type_name fields place) = olds_in_exprs fields
  olds_in (modify_record target fields place) = olds_in target ++ olds_in_field_values fields
  olds_in (is_of_type tested declared place) = olds_in tested
  olds_in (is_of_named type_name tested place) = olds_in tested
  olds_in (is_of_basic basic tested place) = olds_in tested
  olds_in (is_of_class class class_place tested place) = olds_in tested
  olds_in (is_of_base_class class class_place tested place) = olds_in tested
  olds_in (same_class left right place) = olds_in left ++ olds_in right
  olds_in (same_base_class left right place) = olds_in left ++ olds_in right
  olds_in (create class class_place arguments place) = olds_in_exprs arguments
  olds_in (history counter names place) = []
  olds_in (apply head arguments place) = olds_in head ++ olds_in_exprs arguments
  olds_in (subsequence target first last place) = olds_in target ++ (olds_in first ++ olds_in last)
  olds_in (select target name name_place place) = olds_in target
  olds_in (select_of_class target class class_place name name_place place) = olds_in target
  olds_in (select_part target number place) = olds_in target
  olds_in (let_in definitions body place) = olds_in_defined definitions ++ olds_in body
  olds_in (let_be bind condition body place) = olds_in_bind bind ++ (olds_in_maybe condition ++ olds_in body)
  olds_in (def_in pattern value body place) = olds_in_pattern pattern ++ (olds_in value ++ olds_in body)
  olds_in (if_else condition value elseifs otherwise place) =
      olds_in condition ++ (olds_in value ++ (olds_in_branches elseifs ++ olds_in otherwise))
  olds_in (cases_of subject cases others place) = olds_in subject ++ (olds_in_cases cases ++ olds_in_maybe others)
  olds_in (for_all binds condition place) = olds_in_binds binds ++ olds_in condition
  olds_in (exists_some binds condition place) = olds_in_binds binds ++ olds_in condition
  olds_in (exists_one bind condition place) = olds_in_bind bind ++ olds_in condition
  olds_in (iota_of bind condition place) = olds_in_bind bind ++ olds_in condition

  pub olds_in_exprs : ExprTrees → List Name
  olds_in_exprs no_exprs = []
  olds_in_exprs (one_expr e es) = olds_in e ++ olds_in_exprs es

  pub olds_in_maybe : MaybeExpr → List Name
  olds_in_maybe left_out = []
  olds_in_maybe (given_expr e) = olds_in e

  pub olds_in_maplets : MapletTrees → List Name
  olds_in_maplets no_maplets = []
  olds_in_maplets (one_maplet key value pairs) = olds_in key ++ (olds_in value ++ olds_in_maplets pairs)

  pub olds_in_field_values : FieldValueTrees → List Name
  olds_in_field_values no_field_values = []
  olds_in_field_values (one_field_value name name_place value fields) = olds_in value ++ olds_in_field_values fields

  pub olds_in_defined : DefinedTrees → List Name
  olds_in_defined no_defined = []
  olds_in_defined (one_defined pattern declared value definitions) =
      olds_in_pattern pattern ++ (olds_in value ++ olds_in_defined definitions)

  pub olds_in_branches : BranchTrees → List Name
  olds_in_branches no_branches = []
  olds_in_branches (one_branch condition value others) = olds_in condition ++ (olds_in value ++ olds_in_branches others)

  pub olds_in_cases : CaseTrees → List Name
  olds_in_cases no_cases = []
  olds_in_cases (one_case patterns value cases) = olds_in_patterns patterns ++ (olds_in value ++ olds_in_cases cases)

  pub olds_in_bind : BindTree → List Name
  olds_in_bind (bind_in patterns set) = olds_in_patterns patterns ++ olds_in set

  pub olds_in_binds : BindTrees → List Name
  olds_in_binds no_binds = []
  olds_in_binds (one_bind bind binds) = olds_in_bind bind ++ olds_in_binds binds

  pub olds_in_pattern : PatternTree → List Name
  olds_in_pattern (any_value place) = []
  olds_in_pattern (bound name place) = []
  olds_in_pattern (literal_pattern value place) = []
  olds_in_pattern (equal_to inner place) = olds_in inner
  olds_in_pattern (set_pattern elements place) = olds_in_patterns elements
  olds_in_pattern (sequence_pattern items place) = olds_in_patterns items
  olds_in_pattern (map_pattern maplets place) = olds_in_maplet_patterns maplets
  olds_in_pattern (empty_map_pattern place) = []
  olds_in_pattern (tuple_pattern parts place) = olds_in_patterns parts
  olds_in_pattern (record_pattern type_name fields place) = olds_in_patterns fields
  olds_in_pattern (concatenation_pattern parts place) = olds_in_patterns parts

  pub olds_in_patterns : PatternTrees → List Name
  olds_in_patterns no_patterns = []
  olds_in_patterns (one_pattern p ps) = olds_in_pattern p ++ olds_in_patterns ps

  pub olds_in_maplet_patterns : MapletPatterns → List Name
  olds_in_maplet_patterns no_maplet_patterns = []
  olds_in_maplet_patterns (one_maplet_pattern key value maplets) =
      olds_in_pattern key ++ (olds_in_pattern value ++ olds_in_maplet_patterns maplets)

-- each of them once, by first occurrence
abbrev pub old_names : Option ExprTree → List Name
old_names None = []
old_names (Some post) = first_names (olds_in post)

-- ---- their variables

-- a variable that is read: its name, and the object on which it stands
pub record Old : Type 0 where
  pub name : Name
  pub object : ℕ
  pub var : VarRef

-- a variable that has no home is not read
abbrev pub with_old : Name → VarRef → Option ℕ → List Old → List Old
with_old name var None olds = olds
with_old name var (Some object) olds = record { name = name; object = object; var = var } ∷ olds

-- ... of a call on an object; a name that means no variable is none
abbrev pub with_found : SpecTree → ℕ → Name → Option VarRef → List Old → List Old
with_found spec me name None olds = olds
with_found spec me name (Some var) olds = with_old name var (variable_home spec var (Some me)) olds

-- what the names mean in a class
abbrev pub olds_of : SpecTree → ℕ → Name → List Name → List Old
olds_of spec me class [] = []
olds_of spec me class (name ∷ names) = with_found spec me name (variable_in spec (Some class) name) (olds_of spec me class names)

abbrev pub old_variables : SpecTree → Calling → List Old
old_variables spec c = olds_of spec c.me c.op.class (old_names c.operation.post)
