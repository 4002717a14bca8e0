-- Trees to work out. Each node stands in its column of line 1.
use Rattle.std.specs.Prelude.{ℕ, ◌+◌, pos, true, false, List, [], ◌∷◌, Option, Some, None}
use Rattle.vdm_kinds.specs.declared.access.Level.TheVariants.{Private, Public}
use Rattle.vdm_kinds.specs.declared.basic_type.BasicType.TheVariants.{Nat}
use Rattle.vdm_kinds.specs.declared.counter.Counter.TheVariants.{Finishes}
use Rattle.vdm_kinds.specs.declared.name.Name.{Name}
use Rattle.vdm_kinds.specs.declared.name_at.TypeName.{TypeName}
use Rattle.vdm_kinds.specs.declared.part.Part.TheVariants.{Spec}
use Rattle.vdm_kinds.specs.declared.place.Place.{Place}
use Rattle.vdm_kinds.specs.declared.sign.Sign.{Sign}
use Rattle.abstract_syntax.specs.Literals.{whole_literal, boolean_literal}
use Rattle.abstract_syntax.specs.Types.{TypeTree, basic_type}
use Rattle.abstract_syntax.specs.Expressions.{ExprTree, ExprTrees, PatternTree, BindTrees, literal, named, history, joined, create, apply, select, no_exprs, one_expr, bind_in, no_binds, one_bind, equal_to, record_pattern, no_patterns, one_pattern}
use Rattle.abstract_syntax.specs.Statements.{variable, AssignmentTree, LocalTree, StmtTree, StmtTrees, StmtBranches, MaybeStmt, assign, call, block, returns, if_then, for_numbers, no_stmts, one_stmt, no_stmt_branches, one_stmt_branch}
use Rattle.abstract_syntax.specs.Classes.{TypeDefTree, same_as, ValueDefTree, VariableTree, variable_item, written, FunctionTree, OperationTree, BlockTree, variables, operations, ClassTree, SpecTree}

abbrev pub at : ℕ → Place
at column = record { part = Spec; line = 1; column = column }

abbrev pub name : ℕ → Name
name n = record { 0 = n }

-- names behind the built-in ones: the class's, a variable's, an operation's
abbrev pub class_name : Name
class_name = name 3

abbrev pub n : Name
n = name 4

abbrev pub op : Name
op = name 5

abbrev pub one : ℕ → ExprTree
one column = literal (whole_literal (pos 1)) (at column)

abbrev pub truth : ℕ → ExprTree
truth column = literal (boolean_literal true) (at column)

abbrev pub use_of : Name → ℕ → ExprTree
use_of name column = named name (at column)

abbrev pub sign_between : ExprTree → Sign → ℕ → ExprTree → ExprTree
sign_between left sign column right = joined left sign right (at column)

abbrev pub applied : ExprTree → ExprTrees → ℕ → ExprTree
applied head arguments column = apply head arguments (at column)

-- `.name`, with the dot in this column
abbrev pub selected : ExprTree → Name → ℕ → ExprTree
selected target name column = select target name (at (column + 1)) (at column)

-- `new C`, from this column on
abbrev pub new_of : ExprTrees → ℕ → ExprTree
new_of arguments column = create class_name (at (column + 4)) arguments (at column)

abbrev pub an_argument : ℕ → ExprTrees
an_argument column = one_expr (one column) no_exprs

-- `new C().op()` from column 1 on: the dot in 8, the bracket in 11
abbrev pub call_of_new : ExprTrees → ExprTree
call_of_new arguments = applied (selected (new_of no_exprs 1) op 8) arguments 11

-- a type of one letter, named behind `mk_` or `is_` in this column
abbrev pub type_at : ℕ → TypeName
type_at column = record { class = None; name = op; name_place = at column }

-- `mk_R((time))` as a pattern, from this column on: what is not built stands six columns behind it
-- an expression that is not built
abbrev pub a_counter : Place → ExprTree
a_counter place = history Finishes [] place

abbrev pub record_at : ℕ → PatternTree
record_at column =
    record_pattern (type_at column) (one_pattern (equal_to (a_counter (at (column + 6))) (at (column + 5))) no_patterns) (at column)

abbrev pub a_bind : PatternTree → ExprTree → BindTrees
a_bind pattern set = one_bind (bind_in (one_pattern pattern no_patterns) set) no_binds

-- ---- statements

abbrev pub listed : List StmtTree → StmtTrees
listed [] = no_stmts
listed (statement ∷ statements) = one_stmt statement (listed statements)

abbrev pub in_block : List StmtTree → ℕ → StmtTree
in_block statements column = block [] (listed statements) (at column)

abbrev pub set_to : Name → ExprTree → ℕ → StmtTree
set_to name value column = assign (variable name [] (at column)) value (at column)

-- `op()`, for a name of two letters
abbrev pub call_to : Name → ℕ → StmtTree
call_to name column = call (applied (use_of name column) no_exprs (column + 2)) (at column)

-- a call of which nothing is built, from this column on
abbrev pub unbuilt_call : ℕ → StmtTree
unbuilt_call column = call (applied (a_counter (at column)) no_exprs (column + 4)) (at column)

abbrev pub gives : ExprTree → ℕ → StmtTree
gives value column = returns (Some value) (at column)

-- `name := value` among others, for a name of one letter
abbrev pub setting_to : Name → ExprTree → ℕ → AssignmentTree
setting_to name value column = record { target = variable name [] (at column); value = value }

-- `name : nat`, from this column on, with an initial value or without
abbrev pub a_local : Name → Option ExprTree → ℕ → LocalTree
a_local name initial column = record { name = name; name_place = at column; declared = basic_type Nat (at (column + 4)); initial = initial }

-- `if condition then body ..`, from column 1 on
abbrev pub chosen : ExprTree → StmtTree → StmtBranches → MaybeStmt → StmtTree
chosen condition body elseifs otherwise = if_then condition body elseifs otherwise (at 1)

-- a branch of which nothing is built, with its condition in this column
abbrev pub another_branch : ℕ → StmtBranches
another_branch column = one_stmt_branch (a_counter (at column)) (unbuilt_call (column + 10)) no_stmt_branches

-- `for n = first to last by step do body`, from column 1 on
abbrev pub counted : ExprTree → ExprTree → Option ExprTree → StmtTree → StmtTree
counted first last by body = for_numbers n (at 5) first last by body (at 1)

-- ---- classes

abbrev pub nat_type : TypeTree
nat_type = basic_type Nat (at 20)

-- `n : nat := 1`, from this column on
abbrev pub a_variable : Name → ℕ → VariableTree
a_variable name column = record {
  access = record { is_static = false; level = Private };
  name = name;
  name_place = at column;
  declared = basic_type Nat (at (column + 4));
  initial = Some (one (column + 11));
  place = at column;
}

-- `static n : nat := new C()`, from column 30 on: what is not built stands in column 48
abbrev pub static_new : VariableTree
static_new =
    record (a_variable n 37) { access = record { is_static = true; level = Private }; initial = Some (new_of no_exprs 48); place = at 30 }

-- `public op : ..`, from this column on, with a result or without
abbrev pub an_operation : Name → Option TypeTree → StmtTree → ℕ → OperationTree
an_operation name result body column = record {
  access = record { is_static = false; level = Public };
  name = name;
  name_place = at (column + 7);
  parameters = [];
  result_type = result;
  patterns = [];
  body = written body;
  pre = None;
  post = None;
  place = at column;
}

-- `T = nat`, from this column on
abbrev pub a_type : ℕ → TypeDefTree
a_type column = record {
  access = record { is_static = false; level = Private };
  class = class_name;
  name = n;
  name_place = at column;
  body = same_as nat_type;
  invariant = None;
  place = at column;
}

-- `T = nat inv .. == ..`, from this column on
abbrev pub type_where : PatternTree → ExprTree → ℕ → TypeDefTree
type_where pattern condition column = record (a_type column) { invariant = Some (record { pattern = pattern; condition = condition }) }

-- `n = ..`, from this column on
abbrev pub a_value : ExprTree → ℕ → ValueDefTree
a_value value column = record {
  access = record { is_static = false; level = Private };
  name = n;
  name_place = at column;
  declared = None;
  value = value;
  place = at column;
}

-- `op : nat -> nat op (..) == ..`, from this column on
abbrev pub a_function : PatternTree → ExprTree → ℕ → FunctionTree
a_function pattern body column = record {
  access = record { is_static = false; level = Private };
  name = op;
  name_place = at column;
  parameters = nat_type ∷ [];
  result_type = nat_type;
  patterns = pattern ∷ [];
  body = written body;
  pre = None;
  post = None;
  measure = None;
  place = at column;
}

abbrev pub a_class : List BlockTree → ClassTree
a_class blocks = record { name = class_name; name_place = at 7; superclasses = []; blocks = blocks; place = at 1 }

abbrev pub spec_of : List BlockTree → SpecTree
spec_of blocks = record { classes = a_class blocks ∷ [] }

-- the same class behind another one
abbrev pub spec_of_two : List BlockTree → List BlockTree → SpecTree
spec_of_two first second = record { classes = a_class first ∷ a_class second ∷ [] }

-- a class with a superclass, in column 25
abbrev pub spec_below : Name → List BlockTree → SpecTree
spec_below superclass blocks =
    record { classes = record (a_class blocks) { superclasses = record { name = superclass; place = at 25 } ∷ [] } ∷ [] }

-- a class of one operation, in column 30
abbrev pub spec_with : Option TypeTree → StmtTree → SpecTree
spec_with result body = spec_of (operations (an_operation op result body 30 ∷ []) (at 9) ∷ [])

-- a class with the variable `n` in column 30 and an operation in column 60
abbrev pub spec_over : Option TypeTree → StmtTree → SpecTree
spec_over result body =
    spec_of (variables (variable_item (a_variable n 30) ∷ []) (at 9) ∷ operations (an_operation op result body 60 ∷ []) (at 50) ∷ [])
