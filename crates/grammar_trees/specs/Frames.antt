-- What is open where tokens are read from left to right: a device of the proof that tokens are at most one tree. A frame is what
-- has been read of a tree whose next part is being read.
use Rattle.std.specs.Prelude.{List, Option}
use Rattle.vdm_kinds.specs.declared.basic_type.BasicType.{BasicType}
use Rattle.vdm_kinds.specs.declared.counter.Counter.{Counter}
use Rattle.vdm_kinds.specs.declared.name.Name.{Name}
use Rattle.vdm_kinds.specs.declared.name_at.NameAt.{NameAt}
use Rattle.vdm_kinds.specs.declared.name_at.TypeName.{TypeName}
use Rattle.vdm_kinds.specs.declared.place.Place.{Place}
use Rattle.vdm_kinds.specs.declared.sign.Sign.{Sign}
use Rattle.abstract_syntax.specs.Types.{TypeTree}
use Rattle.abstract_syntax.specs.Expressions.{
  ExprTree,
  ExprTrees,
  MaybeExpr,
  MapletTrees,
  FieldValueTrees,
  DefinedTrees,
  BranchTrees,
  CaseTrees,
  BindTree,
  BindTrees,
  PatternTree,
  PatternTrees,
  MapletPatterns,
}
use Rattle.grammar_words.specs.Tokens.{Token}

-- what an expression in round brackets is for
pub data Enclosed : Type 0 where
  bracket : Enclosed
  token_of : Enclosed
  named_test : TypeName → Enclosed
  basic_test : BasicType → Enclosed
  class_test : Name → Place → Enclosed
  base_class_test : Name → Place → Enclosed

-- what a list of expressions is for
pub data Listed : Type 0 where
  set_of : Listed
  sequence_of : Listed
  tuple_of : Listed
  record_of : TypeName → Listed
  new_of : Name → Place → Listed
  applied_to : ExprTree → Listed

-- what a range is for
pub data Ranged : Type 0 where
  in_set : Ranged
  part_of_sequence : ExprTree → Ranged

-- what two classes are compared for
pub data Compared : Type 0 where
  classes : Compared
  base_classes : Compared

-- what binds are for
pub data BindsFor : Type 0 where
  set_each : ExprTree → BindsFor
  map_each : ExprTree → ExprTree → BindsFor
  all_of : BindsFor
  some_of : BindsFor
  one_of : BindsFor
  the_one : BindsFor
  such_one : BindsFor

-- what a condition at the end of a comprehension is for
pub data Conditioned : Type 0 where
  set_such : ExprTree → BindTrees → Conditioned
  map_such : ExprTree → ExprTree → BindTrees → Conditioned
  sequence_such : ExprTree → PatternTree → ExprTree → Conditioned

-- what an expression is for that goes to the right as far as it can
pub data Body : Type 0 where
  all_body : BindTrees → Body
  some_body : BindTrees → Body
  one_body : BindTree → Body
  the_body : BindTree → Body
  let_body : DefinedTrees → Body
  such_body : BindTree → MaybeExpr → Body
  def_body : PatternTree → ExprTree → Body
  else_body : ExprTree → ExprTree → BranchTrees → Body

-- what a list of patterns is for
pub data PatternsFor : Type 0 where
  set_like : PatternsFor
  sequence_like : PatternsFor
  tuple_like : PatternsFor
  record_like : TypeName → PatternsFor

-- A frame, by what comes next in it. The last place is that of its node.
pub data Frame : Type 0 where
  -- ---- an expression
  operand_of : Sign → Place → Frame
  right_of : ExprTree → Sign → Place → Frame
  body : Body → Place → Frame
  enclosed : Enclosed → Place → Frame
  -- `(e)` as a pattern
  matched : Place → Frame
  items : Listed → ExprTrees → Place → Frame
  -- the first part of `mk_(a, b)`
  tuple_start : Place → Frame
  -- the last of a range
  range_end : Ranged → ExprTree → Place → Frame
  map_key : MapletTrees → Place → Frame
  map_value : MapletTrees → ExprTree → Place → Frame
  condition : Conditioned → Place → Frame
  -- the set of a bind, behind other binds
  bind_set : BindsFor → BindTrees → PatternTrees → Place → Frame
  sequence_set : ExprTree → PatternTree → Place → Frame
  left_class : Compared → Place → Frame
  right_class : Compared → ExprTree → Place → Frame
  -- what `is_` tests, and what `mu` modifies
  tested : Place → Frame
  modified : Place → Frame
  field_value : ExprTree → FieldValueTrees → Name → Place → Place → Frame
  let_value : DefinedTrees → PatternTree → Option TypeTree → Place → Frame
  -- what stands behind `be st`
  let_such : BindTree → Place → Frame
  def_value : PatternTree → Place → Frame
  if_test : Place → Frame
  if_then : ExprTree → Place → Frame
  elseif_test : ExprTree → ExprTree → BranchTrees → Place → Frame
  elseif_then : ExprTree → ExprTree → BranchTrees → ExprTree → Place → Frame
  subject : Place → Frame
  case_value : ExprTree → CaseTrees → PatternTrees → Place → Frame
  others_value : ExprTree → CaseTrees → Place → Frame
  -- ---- a pattern
  bind_patterns : BindsFor → BindTrees → PatternTrees → Place → Frame
  sequence_bound : ExprTree → Place → Frame
  -- the first pattern behind `let`
  let_start : Place → Frame
  let_next : DefinedTrees → Place → Frame
  def_pattern : Place → Frame
  case_patterns : ExprTree → CaseTrees → PatternTrees → Place → Frame
  pattern_items : PatternsFor → PatternTrees → Place → Frame
  tuple_pattern_start : Place → Frame
  pattern_key : MapletPatterns → Place → Frame
  pattern_value : MapletPatterns → PatternTree → Place → Frame
  -- what stands before a `^`
  concatenated : PatternTrees → Place → Frame
  -- ---- a type
  test_type : ExprTree → Place → Frame
  let_type : DefinedTrees → PatternTree → Place → Frame
  -- a bracket in a type
  type_bracket : Frame

-- what a name of a type is for
pub data TypeNameFor : Type 0 where
  made : TypeNameFor
  asked : TypeNameFor
  made_pattern : TypeNameFor

-- What was read of a form that begins with single tokens, by what comes next.
pub data Header : Type 0 where
  -- `(`, `,`, `st` or `->`, and then an expression in the frame
  opens : Frame → Header
  comma_then : Frame → Header
  st_then : Frame → Header
  arrow_then : Frame → Header
  -- `(`, and then a pattern in the frame
  opens_pattern : Frame → Header
  -- a name of a type goes on, or is whole
  type_after : TypeNameFor → Name → Place → Header
  type_rest : TypeNameFor → Name → Place → Header
  qualified_rest : Name → Place → Header
  member_of : ExprTree → Place → Header
  member_rest : ExprTree → Name → Place → Place → Header
  part_of : ExprTree → Place → Header
  new_name : Place → Header
  counter_opens : Counter → Place → Header
  counter_name : Counter → List NameAt → Place → Header
  counter_next : Counter → List NameAt → Place → Header
  -- the class that is asked for
  class_opens : Place → Header
  class_name : Place → Header
  base_class_opens : Place → Header
  base_class_name : Place → Header
  field_name : ExprTree → FieldValueTrees → Place → Header
  field_arrow : ExprTree → FieldValueTrees → Name → Place → Place → Header
  -- the end of `{|->}`
  empty_map_end : Place → Header
  empty_pattern_end : Place → Header

-- what is wanted next, or what was read
pub data Mode : Type 0 where
  wants : Mode
  has : ExprTree → Mode
  wants_pattern : Mode
  has_pattern : PatternTree → Mode
  awaits : Header → Mode
  -- tokens of a type
  typing : List Token → Mode
  refused : Mode

-- the innermost frame is first
pub record State : Type 0 where
  pub mode : Mode
  pub frames : List Frame

-- what the tokens are
pub data Built : Type 0 where
  nothing : Built
  an_expr : ExprTree → Built
  a_pattern : PatternTree → Built
