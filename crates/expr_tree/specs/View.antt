-- The pure trees that expressions, patterns and binds of the program are.
use Rattle.std.specs.Prelude.{List, [], ◌∷◌, map, Option, Some, None, option_map, Box}
use Rattle.vdm_kinds.specs.declared.name.Name.{Name as NameNumber}
use Rattle.vdm_kinds.specs.declared.place.Place.{Place}
use Rattle.abstract_syntax.specs.Types.{TypeTree}
use Rattle.abstract_syntax.specs.Expressions.{
  ExprTree,
  ExprTrees,
  MaybeExpr,
  MapletTrees,
  FieldValueTrees,
  DefinedTrees,
  BranchTrees,
  CaseTrees,
  BindTree,
  BindTrees,
  PatternTree,
  PatternTrees,
  MapletPatterns,
  literal,
  named,
  qualified,
  old_value,
  self_object,
  current_time,
  undefined,
  result_value,
  bracketed,
  prefixed,
  joined,
  set_enumeration,
  set_range,
  set_comprehension,
  empty_map,
  map_enumeration,
  map_comprehension,
  sequence_enumeration,
  sequence_comprehension,
  make_tuple,
  make_token,
  make_record,
  modify_record,
  is_of_type,
  is_of_named,
  is_of_basic,
  is_of_class,
  is_of_base_class,
  same_class,
  same_base_class,
  create,
  history,
  apply,
  subsequence,
  select,
  select_of_class,
  select_part,
  let_in,
  let_be,
  def_in,
  if_else,
  cases_of,
  for_all,
  exists_some,
  exists_one,
  iota_of,
  no_exprs,
  one_expr,
  left_out,
  given_expr,
  no_maplets,
  one_maplet,
  no_field_values,
  one_field_value,
  no_defined,
  one_defined,
  no_branches,
  one_branch,
  no_cases,
  one_case,
  bind_in,
  no_binds,
  one_bind,
  any_value,
  bound,
  literal_pattern,
  equal_to,
  set_pattern,
  sequence_pattern,
  map_pattern,
  empty_map_pattern,
  tuple_pattern,
  record_pattern,
  concatenation_pattern,
  no_patterns,
  one_pattern,
  no_maplet_patterns,
  one_maplet_pattern,
}
use Rattle.expr_tree.specs.declared.expr.Expr.{Expr, fold-Expr}
use Rattle.expr_tree.specs.declared.pattern.Pattern.{Pattern, fold-Pattern}
use Rattle.expr_tree.specs.declared.parts.Branch.{Branch, fold-Branch}
use Rattle.expr_tree.specs.declared.parts.Case.{Case, fold-Case}
use Rattle.expr_tree.specs.declared.parts.Defined.{Defined, fold-Defined}
use Rattle.expr_tree.specs.declared.parts.FieldValue.{FieldValue, fold-FieldValue}
use Rattle.expr_tree.specs.declared.parts.Maplet.{Maplet, fold-Maplet}
use Rattle.expr_tree.specs.declared.pattern.Bind.{Bind, fold-Bind}
use Rattle.expr_tree.specs.declared.pattern.MapletPattern.{MapletPattern, fold-MapletPattern}
use Rattle.expr_tree.specs.declared.expr.Expr.TheOpen.{
  Expr-F,
  Expr::Literal,
  Name,
  Qualified,
  Old,
  SelfObject,
  Time,
  Undefined,
  Result,
  Bracketed,
  Prefix,
  Infix,
  SetEnumeration,
  SetRange,
  SetComprehension,
  Expr::EmptyMap,
  MapEnumeration,
  MapComprehension,
  SequenceEnumeration,
  SequenceComprehension,
  MakeTuple,
  MakeToken,
  MakeRecord,
  ModifyRecord,
  IsOfType,
  IsOfNamed,
  IsOfBasic,
  IsOfClass,
  IsOfBaseClass,
  SameClass,
  SameBaseClass,
  New,
  History,
  Apply,
  Subsequence,
  Select,
  SelectOfClass,
  SelectPart,
  LetIn,
  LetBe,
  DefIn,
  IfElse,
  Cases,
  ForAll,
  Exists,
  ExistsOne,
  Iota,
}
use Rattle.expr_tree.specs.declared.expr.Expr.TheOpen.{
  Pattern-F,
  AnyValue,
  Bound,
  Pattern::Literal,
  EqualTo,
  Set,
  Sequence,
  Map,
  Pattern::EmptyMap,
  Tuple,
  Record,
  Concatenation,
  Branch-F,
  Case-F,
  Defined-F,
  FieldValue-F,
  Maplet-F,
  Bind-F,
  MapletPattern-F,
}
use Rattle.type_tree.specs.LiteralView.{literal_view}
use Rattle.type_tree.specs.TypeView.{type_view}

-- ---- what stands in a list of its own kind

-- `elseif c then a`
pub record BranchView : Type 0 where
  pub condition : ExprTree
  pub value : ExprTree

-- `p, q -> a`
pub record CaseView : Type 0 where
  pub patterns : List PatternTree
  pub value : ExprTree

-- `p : T = a`
pub record DefinedView : Type 0 where
  pub pattern : PatternTree
  pub declared : Option TypeTree
  pub value : ExprTree

-- `f |-> a`
pub record FieldValueView : Type 0 where
  pub name : NameNumber
  pub name_place : Place
  pub value : ExprTree

-- `a |-> b`
pub record MapletView : Type 0 where
  pub key : ExprTree
  pub value : ExprTree

-- `p |-> q`
pub record MapletPatternView : Type 0 where
  pub key : PatternTree
  pub value : PatternTree

-- ---- lists as parts of a tree

abbrev pub expr_trees : List ExprTree → ExprTrees
expr_trees [] = no_exprs
expr_trees (e ∷ es) = one_expr e (expr_trees es)

abbrev pub pattern_trees : List PatternTree → PatternTrees
pattern_trees [] = no_patterns
pattern_trees (p ∷ ps) = one_pattern p (pattern_trees ps)

abbrev pub bind_trees : List BindTree → BindTrees
bind_trees [] = no_binds
bind_trees (b ∷ bs) = one_bind b (bind_trees bs)

abbrev pub branch_trees : List BranchView → BranchTrees
branch_trees [] = no_branches
branch_trees (b ∷ bs) = one_branch b.condition b.value (branch_trees bs)

abbrev pub case_trees : List CaseView → CaseTrees
case_trees [] = no_cases
case_trees (c ∷ cs) = one_case (pattern_trees c.patterns) c.value (case_trees cs)

abbrev pub defined_trees : List DefinedView → DefinedTrees
defined_trees [] = no_defined
defined_trees (d ∷ ds) = one_defined d.pattern d.declared d.value (defined_trees ds)

abbrev pub field_value_trees : List FieldValueView → FieldValueTrees
field_value_trees [] = no_field_values
field_value_trees (f ∷ fs) = one_field_value f.name f.name_place f.value (field_value_trees fs)

abbrev pub maplet_trees : List MapletView → MapletTrees
maplet_trees [] = no_maplets
maplet_trees (m ∷ ms) = one_maplet m.key m.value (maplet_trees ms)

abbrev pub maplet_pattern_trees : List MapletPatternView → MapletPatterns
maplet_pattern_trees [] = no_maplet_patterns
maplet_pattern_trees (m ∷ ms) = one_maplet_pattern m.key m.value (maplet_pattern_trees ms)

-- what may be left out
abbrev pub maybe_tree : Option ExprTree → MaybeExpr
maybe_tree None = left_out
maybe_tree (Some e) = given_expr e

abbrev unboxed : {A : Type 0} → Option (Box ExprTree A) → MaybeExpr
unboxed None = left_out
unboxed (Some e) = given_expr e.value

-- ---- one level, whose children are pure trees

abbrev pub expr_step : Expr-F ExprTree PatternTree BranchView CaseView DefinedView FieldValueView MapletView BindTree MapletPatternView →
    ExprTree
expr_step (Expr::Literal value place) = literal (literal_view value) place
expr_step (Name name place) = named name place
expr_step (Qualified class name name_place place) = qualified class name name_place place
expr_step (Old name place) = old_value name place
expr_step (SelfObject place) = self_object place
expr_step (Time place) = current_time place
expr_step (Undefined place) = undefined place
expr_step (Result place) = result_value place
expr_step (Bracketed inner place) = bracketed inner.value place
expr_step (Prefix sign operand place) = prefixed sign operand.value place
expr_step (Infix left sign right place) = joined left.value sign right.value place
expr_step (SetEnumeration elements place) = set_enumeration (expr_trees elements.items) place
expr_step (SetRange first last place) = set_range first.value last.value place
expr_step (SetComprehension element binds condition place) =
    set_comprehension element.value (bind_trees binds.items) (unboxed condition) place
expr_step (Expr::EmptyMap place) = empty_map place
expr_step (MapEnumeration pairs place) = map_enumeration (maplet_trees pairs.items) place
expr_step (MapComprehension key value binds condition place) =
    map_comprehension key.value value.value (bind_trees binds.items) (unboxed condition) place
expr_step (SequenceEnumeration items place) = sequence_enumeration (expr_trees items.items) place
expr_step (SequenceComprehension item pattern set condition place) =
    sequence_comprehension item.value pattern.value set.value (unboxed condition) place
expr_step (MakeTuple parts place) = make_tuple (expr_trees parts.items) place
expr_step (MakeToken inner place) = make_token inner.value place
expr_step (MakeRecord type_name fields place) = make_record type_name (expr_trees fields.items) place
expr_step (ModifyRecord target fields place) = modify_record target.value (field_value_trees fields.items) place
expr_step (IsOfType tested declared place) = is_of_type tested.value (type_view declared) place
expr_step (IsOfNamed type_name tested place) = is_of_named type_name tested.value place
expr_step (IsOfBasic basic tested place) = is_of_basic basic tested.value place
expr_step (IsOfClass class class_place tested place) = is_of_class class class_place tested.value place
expr_step (IsOfBaseClass class class_place tested place) = is_of_base_class class class_place tested.value place
expr_step (SameClass left right place) = same_class left.value right.value place
expr_step (SameBaseClass left right place) = same_base_class left.value right.value place
expr_step (New class class_place arguments place) = create class class_place (expr_trees arguments.items) place
expr_step (History counter names place) = history counter names.items place
expr_step (Apply head arguments place) = apply head.value (expr_trees arguments.items) place
expr_step (Subsequence target first last place) = subsequence target.value first.value last.value place
expr_step (Select target name name_place place) = select target.value name name_place place
expr_step (SelectOfClass target class class_place name name_place place) =
    select_of_class target.value class class_place name name_place place
expr_step (SelectPart target number place) = select_part target.value number place
expr_step (LetIn definitions body place) = let_in (defined_trees definitions.items) body.value place
expr_step (LetBe bind condition body place) = let_be bind.value (unboxed condition) body.value place
expr_step (DefIn pattern value body place) = def_in pattern.value value.value body.value place
expr_step (IfElse condition value elseifs otherwise place) =
    if_else condition.value value.value (branch_trees elseifs.items) otherwise.value place
expr_step (Cases subject cases others place) = cases_of subject.value (case_trees cases.items) (unboxed others) place
expr_step (ForAll binds condition place) = for_all (bind_trees binds.items) condition.value place
expr_step (Exists binds condition place) = exists_some (bind_trees binds.items) condition.value place
expr_step (ExistsOne bind condition place) = exists_one bind.value condition.value place
expr_step (Iota bind condition place) = iota_of bind.value condition.value place

abbrev pub pattern_step : Pattern-F ExprTree PatternTree BranchView CaseView DefinedView FieldValueView MapletView BindTree
    MapletPatternView → PatternTree
pattern_step (AnyValue place) = any_value place
pattern_step (Bound name place) = bound name place
pattern_step (Pattern::Literal value place) = literal_pattern (literal_view value) place
pattern_step (EqualTo inner place) = equal_to inner.value place
pattern_step (Set elements place) = set_pattern (pattern_trees elements.items) place
pattern_step (Sequence items place) = sequence_pattern (pattern_trees items.items) place
pattern_step (Map pairs place) = map_pattern (maplet_pattern_trees pairs.items) place
pattern_step (Pattern::EmptyMap place) = empty_map_pattern place
pattern_step (Tuple parts place) = tuple_pattern (pattern_trees parts.items) place
pattern_step (Record type_name fields place) = record_pattern type_name (pattern_trees fields.items) place
pattern_step (Concatenation parts place) = concatenation_pattern (pattern_trees parts.items) place

abbrev pub branch_step : Branch-F ExprTree PatternTree BranchView CaseView DefinedView FieldValueView MapletView BindTree MapletPatternView
    → BranchView
branch_step b = record { condition = b.condition.value; value = b.value.value }

abbrev pub case_step : Case-F ExprTree PatternTree BranchView CaseView DefinedView FieldValueView MapletView BindTree MapletPatternView →
    CaseView
case_step c = record { patterns = c.patterns.items; value = c.value.value }

abbrev pub defined_step : Defined-F ExprTree PatternTree BranchView CaseView DefinedView FieldValueView MapletView BindTree
    MapletPatternView → DefinedView
defined_step d = record { pattern = d.pattern.value; declared = option_map type_view d.declared; value = d.value.value }

abbrev pub field_value_step : FieldValue-F ExprTree PatternTree BranchView CaseView DefinedView FieldValueView MapletView BindTree
    MapletPatternView → FieldValueView
field_value_step f = record { name = f.name; name_place = f.name_place; value = f.value.value }

abbrev pub maplet_step : Maplet-F ExprTree PatternTree BranchView CaseView DefinedView FieldValueView MapletView BindTree MapletPatternView
    → MapletView
maplet_step m = record { key = m.key.value; value = m.value.value }

abbrev pub bind_step : Bind-F ExprTree PatternTree BranchView CaseView DefinedView FieldValueView MapletView BindTree MapletPatternView →
    BindTree
bind_step b = bind_in (pattern_trees b.patterns.items) b.set.value

abbrev pub maplet_pattern_step : MapletPattern-F ExprTree PatternTree BranchView CaseView DefinedView FieldValueView MapletView BindTree
    MapletPatternView → MapletPatternView
maplet_pattern_step m = record { key = m.key.value; value = m.value.value }

-- ---- whole trees

abbrev pub view_of : Expr → ExprTree
view_of = fold-Expr ExprTree PatternTree BranchView CaseView DefinedView FieldValueView MapletView BindTree MapletPatternView expr_step
    pattern_step branch_step case_step defined_step field_value_step maplet_step bind_step maplet_pattern_step

abbrev pub pattern_view : Pattern → PatternTree
pattern_view = fold-Pattern ExprTree PatternTree BranchView CaseView DefinedView FieldValueView MapletView BindTree MapletPatternView
    expr_step pattern_step branch_step case_step defined_step field_value_step maplet_step bind_step maplet_pattern_step

abbrev pub branch_view : Branch → BranchView
branch_view = fold-Branch ExprTree PatternTree BranchView CaseView DefinedView FieldValueView MapletView BindTree MapletPatternView
    expr_step pattern_step branch_step case_step defined_step field_value_step maplet_step bind_step maplet_pattern_step

abbrev pub case_view : Case → CaseView
case_view = fold-Case ExprTree PatternTree BranchView CaseView DefinedView FieldValueView MapletView BindTree MapletPatternView expr_step
    pattern_step branch_step case_step defined_step field_value_step maplet_step bind_step maplet_pattern_step

abbrev pub defined_view : Defined → DefinedView
defined_view = fold-Defined ExprTree PatternTree BranchView CaseView DefinedView FieldValueView MapletView BindTree MapletPatternView
    expr_step pattern_step branch_step case_step defined_step field_value_step maplet_step bind_step maplet_pattern_step

abbrev pub field_value_view : FieldValue → FieldValueView
field_value_view = fold-FieldValue ExprTree PatternTree BranchView CaseView DefinedView FieldValueView MapletView BindTree
    MapletPatternView expr_step pattern_step branch_step case_step defined_step field_value_step maplet_step bind_step maplet_pattern_step

abbrev pub maplet_view : Maplet → MapletView
maplet_view = fold-Maplet ExprTree PatternTree BranchView CaseView DefinedView FieldValueView MapletView BindTree MapletPatternView
    expr_step pattern_step branch_step case_step defined_step field_value_step maplet_step bind_step maplet_pattern_step

abbrev pub bind_view : Bind → BindTree
bind_view = fold-Bind ExprTree PatternTree BranchView CaseView DefinedView FieldValueView MapletView BindTree MapletPatternView expr_step
    pattern_step branch_step case_step defined_step field_value_step maplet_step bind_step maplet_pattern_step

abbrev pub maplet_pattern_view : MapletPattern → MapletPatternView
maplet_pattern_view =
    fold-MapletPattern ExprTree PatternTree BranchView CaseView DefinedView FieldValueView MapletView BindTree MapletPatternView expr_step
    pattern_step branch_step case_step defined_step field_value_step maplet_step bind_step maplet_pattern_step

abbrev pub views_of : List Expr → List ExprTree
views_of = map view_of

abbrev pub pattern_views : List Pattern → List PatternTree
pattern_views = map pattern_view

abbrev pub maybe_view : {A : Type 0} → Option (Box Expr A) → MaybeExpr
maybe_view None = left_out
maybe_view (Some e) = given_expr (view_of e.value)

abbrev pub boxed_view : {A : Type 0} → Box Expr A → ExprTree
boxed_view e = view_of e.value
