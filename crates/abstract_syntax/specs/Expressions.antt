-- The pure trees of expressions, patterns and binds. Each node has its place: of an infix operator the operator's, of an
-- application its `(`, of a selection its `.`, of all else its first token's. Beside a name at which a fault may stand is the
-- name's own place, where that is not the node's.
use Rattle.std.specs.Prelude.{ℤ, List, Option}
use Rattle.vdm_kinds.specs.declared.basic_type.BasicType.{BasicType}
use Rattle.vdm_kinds.specs.declared.counter.Counter.{Counter}
use Rattle.vdm_kinds.specs.declared.name.Name.{Name}
use Rattle.vdm_kinds.specs.declared.name_at.NameAt.{NameAt}
use Rattle.vdm_kinds.specs.declared.name_at.TypeName.{TypeName}
use Rattle.vdm_kinds.specs.declared.place.Place.{Place}
use Rattle.vdm_kinds.specs.declared.sign.Sign.{Sign}
use Rattle.abstract_syntax.specs.Literals.{LiteralTree}
use Rattle.abstract_syntax.specs.Types.{TypeTree}

mutual
  pub data ExprTree : Type 0 where
    -- ---- names, literals and words
    literal : LiteralTree → Place → ExprTree
    -- a name that stands alone
    named : Name → Place → ExprTree
    -- ``C`x``: the class, and the name at its place
    qualified : Name → Name → Place → Place → ExprTree
    -- `x~`
    old_value : Name → Place → ExprTree
    -- `self`
    self_object : Place → ExprTree
    -- `time`
    current_time : Place → ExprTree
    -- `undefined`
    undefined : Place → ExprTree
    -- `RESULT`
    result_value : Place → ExprTree
    -- `(e)`
    bracketed : ExprTree → Place → ExprTree
    -- ---- operators
    -- an operator before its operand
    prefixed : Sign → ExprTree → Place → ExprTree
    -- an operator between two operands
    joined : ExprTree → Sign → ExprTree → Place → ExprTree
    -- ---- sets, maps and sequences
    -- `{a, b}`
    set_enumeration : ExprTrees → Place → ExprTree
    -- `{a, ..., b}`
    set_range : ExprTree → ExprTree → Place → ExprTree
    -- `{e | x in set S & p}`
    set_comprehension : ExprTree → BindTrees → MaybeExpr → Place → ExprTree
    -- `{|->}`
    empty_map : Place → ExprTree
    -- `{a |-> b, c |-> d}`
    map_enumeration : MapletTrees → Place → ExprTree
    -- `{a |-> b | x in set S & p}`
    map_comprehension : ExprTree → ExprTree → BindTrees → MaybeExpr → Place → ExprTree
    -- `[a, b]`
    sequence_enumeration : ExprTrees → Place → ExprTree
    -- `[e | x in set S & p]`
    sequence_comprehension : ExprTree → PatternTree → ExprTree → MaybeExpr → Place → ExprTree
    -- ---- tuples, tokens and records
    -- `mk_(a, b)`, two parts or more
    make_tuple : ExprTrees → Place → ExprTree
    -- `mk_token(e)`
    make_token : ExprTree → Place → ExprTree
    -- `mk_T(a, b)` or ``mk_C`T(a, b)``
    make_record : TypeName → ExprTrees → Place → ExprTree
    -- `mu(r, f |-> a)`
    modify_record : ExprTree → FieldValueTrees → Place → ExprTree
    -- ---- tests of types and classes
    -- `is_(e, T)`
    is_of_type : ExprTree → TypeTree → Place → ExprTree
    -- `is_T(e)` or ``is_C`T(e)``
    is_of_named : TypeName → ExprTree → Place → ExprTree
    -- `is_nat(e)` and its kin
    is_of_basic : BasicType → ExprTree → Place → ExprTree
    -- `isofclass(C, e)`: the name of the class at its place
    is_of_class : Name → Place → ExprTree → Place → ExprTree
    -- `isofbaseclass(C, e)`
    is_of_base_class : Name → Place → ExprTree → Place → ExprTree
    -- `sameclass(a, b)`
    same_class : ExprTree → ExprTree → Place → ExprTree
    -- `samebaseclass(a, b)`
    same_base_class : ExprTree → ExprTree → Place → ExprTree
    -- ---- objects and their history
    -- a new object: the name of its class at its place, and the arguments
    create : Name → Place → ExprTrees → Place → ExprTree
    -- `#fin(op, op)`: the operations
    history : Counter → List NameAt → Place → ExprTree
    -- ---- postfixes
    -- what is applied, and the arguments
    apply : ExprTree → ExprTrees → Place → ExprTree
    -- `q(i, ..., j)`
    subsequence : ExprTree → ExprTree → ExprTree → Place → ExprTree
    -- a member of what stands before the `.`: its name at its place
    select : ExprTree → Name → Place → Place → ExprTree
    -- ``e.C`x``: the class and the name, each at its place
    select_of_class : ExprTree → Name → Place → Name → Place → Place → ExprTree
    -- `e.#1`
    select_part : ExprTree → ℤ → Place → ExprTree
    -- ---- what reaches as far to the right as it can
    -- `let p : T = a, q = b in e`
    let_in : DefinedTrees → ExprTree → Place → ExprTree
    -- `let x in set S be st p in e`
    let_be : BindTree → MaybeExpr → ExprTree → Place → ExprTree
    -- `def p = a in e`
    def_in : PatternTree → ExprTree → ExprTree → Place → ExprTree
    -- `if c then a elseif d then b else e`: the condition, the value, those of each `elseif`, and the value behind `else`
    if_else : ExprTree → ExprTree → BranchTrees → ExprTree → Place → ExprTree
    -- `cases e: p, q -> a, others -> b end`
    cases_of : ExprTree → CaseTrees → MaybeExpr → Place → ExprTree
    -- `forall x in set S & p`
    for_all : BindTrees → ExprTree → Place → ExprTree
    -- `exists x in set S & p`
    exists_some : BindTrees → ExprTree → Place → ExprTree
    -- `exists1 x in set S & p`
    exists_one : BindTree → ExprTree → Place → ExprTree
    -- `iota x in set S & p`
    iota_of : BindTree → ExprTree → Place → ExprTree

  -- a list of expressions
  pub data ExprTrees : Type 0 where
    no_exprs : ExprTrees
    one_expr : ExprTree → ExprTrees → ExprTrees

  -- an expression that may be left out
  pub data MaybeExpr : Type 0 where
    left_out : MaybeExpr
    given_expr : ExprTree → MaybeExpr

  -- a list of `a |-> b`
  pub data MapletTrees : Type 0 where
    no_maplets : MapletTrees
    one_maplet : ExprTree → ExprTree → MapletTrees → MapletTrees

  -- a list of `f |-> a`: the name of a field at its place, and its value
  pub data FieldValueTrees : Type 0 where
    no_field_values : FieldValueTrees
    one_field_value : Name → Place → ExprTree → FieldValueTrees → FieldValueTrees

  -- a list of `p : T = a`, with a type or without
  pub data DefinedTrees : Type 0 where
    no_defined : DefinedTrees
    one_defined : PatternTree → Option TypeTree → ExprTree → DefinedTrees → DefinedTrees

  -- a list of `elseif c then a`
  pub data BranchTrees : Type 0 where
    no_branches : BranchTrees
    one_branch : ExprTree → ExprTree → BranchTrees → BranchTrees

  -- a list of `p, q -> a`
  pub data CaseTrees : Type 0 where
    no_cases : CaseTrees
    one_case : PatternTrees → ExprTree → CaseTrees → CaseTrees

  -- `p, q in set S`
  pub data BindTree : Type 0 where
    bind_in : PatternTrees → ExprTree → BindTree

  pub data BindTrees : Type 0 where
    no_binds : BindTrees
    one_bind : BindTree → BindTrees → BindTrees

  pub data PatternTree : Type 0 where
    -- `-`, which takes any value
    any_value : Place → PatternTree
    -- a name, which is bound
    bound : Name → Place → PatternTree
    literal_pattern : LiteralTree → Place → PatternTree
    -- `(e)`, which takes the expression's value
    equal_to : ExprTree → Place → PatternTree
    -- `{p, q}`
    set_pattern : PatternTrees → Place → PatternTree
    -- `[p, q]`
    sequence_pattern : PatternTrees → Place → PatternTree
    -- `{p |-> q}`
    map_pattern : MapletPatterns → Place → PatternTree
    -- `{|->}`
    empty_map_pattern : Place → PatternTree
    -- `mk_(p, q)`, two parts or more
    tuple_pattern : PatternTrees → Place → PatternTree
    -- `mk_T(p, q)` or ``mk_C`T(p, q)``
    record_pattern : TypeName → PatternTrees → Place → PatternTree
    -- `p ^ q ^ ..`, two parts or more
    concatenation_pattern : PatternTrees → Place → PatternTree

  -- a list of patterns
  pub data PatternTrees : Type 0 where
    no_patterns : PatternTrees
    one_pattern : PatternTree → PatternTrees → PatternTrees

  -- a list of `p |-> q`
  pub data MapletPatterns : Type 0 where
    no_maplet_patterns : MapletPatterns
    one_maplet_pattern : PatternTree → PatternTree → MapletPatterns → MapletPatterns

-- the place of a node
abbrev pub expr_place : ExprTree → Place
expr_place (literal value place) = place
expr_place (named name place) = place
expr_place (qualified class name name_place place) = place
expr_place (old_value name place) = place
expr_place (self_object place) = place
expr_place (current_time place) = place
expr_place (undefined place) = place
expr_place (result_value place) = place
expr_place (bracketed inner place) = place
expr_place (prefixed sign operand place) = place
expr_place (joined left sign right place) = place
expr_place (set_enumeration elements place) = place
expr_place (set_range first last place) = place
expr_place (set_comprehension element binds condition place) = place
expr_place (empty_map place) = place
expr_place (map_enumeration pairs place) = place
expr_place (map_comprehension key value binds condition place) = place
expr_place (sequence_enumeration items place) = place
expr_place (sequence_comprehension item pattern set condition place) = place
expr_place (make_tuple parts place) = place
expr_place (make_token inner place) = place
expr_place (make_record type_name fields place) = place
expr_place (modify_record target fields place) = place
expr_place (is_of_type tested declared place) = place
expr_place (is_of_named type_name tested place) = place
expr_place (is_of_basic basic tested place) = place
expr_place (is_of_class class class_place tested place) = place
expr_place (is_of_base_class class class_place tested place) = place
expr_place (same_class left right place) = place
expr_place (same_base_class left right place) = place
expr_place (create class class_place arguments place) = place
expr_place (history counter names place) = place
expr_place (apply head arguments place) = place
expr_place (subsequence target first last place) = place
expr_place (select target name name_place place) = place
expr_place (select_of_class target class class_place name name_place place) = place
expr_place (select_part target number place) = place
expr_place (let_in definitions body place) = place
expr_place (let_be bind condition body place) = place
expr_place (def_in pattern value body place) = place
expr_place (if_else condition value elseifs otherwise place) = place
expr_place (cases_of subject cases others place) = place
expr_place (for_all binds condition place) = place
expr_place (exists_some binds condition place) = place
expr_place (exists_one bind condition place) = place
expr_place (iota_of bind condition place) = place

abbrev pub pattern_place : PatternTree → Place
pattern_place (any_value place) = place
pattern_place (bound name place) = place
pattern_place (literal_pattern value place) = place
pattern_place (equal_to inner place) = place
pattern_place (set_pattern elements place) = place
pattern_place (sequence_pattern items place) = place
pattern_place (map_pattern maplets place) = place
pattern_place (empty_map_pattern place) = place
pattern_place (tuple_pattern parts place) = place
pattern_place (record_pattern type_name fields place) = place
pattern_place (concatenation_pattern parts place) = place
