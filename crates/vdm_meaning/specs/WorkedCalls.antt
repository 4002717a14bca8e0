-- Calls worked out: classes, and the talk of main for expressions of them.
--
--     class Base
--     instance variables
--       static total : nat := 5;
--       static spare : nat;
--       n : nat := 0;
--     operations
--       public Base : nat ==> Base
--       Base(k) == n := k
--       pre k < 9;
--       public Base : () ==> Base
--       Base() == return self;
--       public add : nat * nat ==> nat
--       add(a, b) == (n := n + a + b; return n)
--       pre a < 5
--       post n = n~ + a + b and RESULT > n~;
--       public static bump : () ==> nat
--       bump() == (total := total + 1; return total);
--       public static twice : () ==> nat
--       twice() == return bump() + bump();
--       public static both : () ==> ()
--       both() == atomic (total := 8; spare := total);
--       public moves : () ==> ()
--       moves() == total := n
--       post n~ + total~ = 5 and total < n~ + 1;
--       public who : () ==> nat
--       who() == return 1;
--       public hears : () ==> nat
--       hears() == return who();
--       public leave : nat ==> bool
--       leave(a) == exit a;
--       public tries : nat ==> nat
--       tries(b) == return b
--       pre leave(b);
--       public safe : nat ==> nat
--       safe(a) == trap x with return x + a in return tries(a + 1);
--       public owes : () ==> nat
--       owes() == skip;
--       public clear : () ==> ()
--       clear() == n := 0;
--       public wrong : () ==> nat
--       wrong() == return 1
--       post RESULT = 2;
--       public todo : nat ==> nat
--       todo(a) is subclass responsibility
--       pre a > 0;
--       public fills : () ==> ()
--       fills() == spare := 1
--       post spare~ = 0;
--       public three : nat ==> nat
--       three(3) == return 1;
--       public me : () ==> Base
--       me() == return self;
--       public flag : () ==> nat
--       flag() == return true;
--     end Base
--     class Sub is subclass of Base
--     operations
--       public who : () ==> nat
--       who() == return 2;
--     end Sub
use Rattle.std.specs.Prelude.{ℕ, true, false, pos, List, [], ◌∷◌, Some, None}
use Rattle.vdm_kinds.specs.NameList.{io}
use Rattle.vdm_kinds.specs.declared.access.Access.{Access}
use Rattle.vdm_kinds.specs.declared.access.Level.TheVariants.{Private, Public}
use Rattle.vdm_kinds.specs.declared.basic_type.BasicType.TheVariants.{Bool, Nat}
use Rattle.vdm_kinds.specs.declared.member.OpRef.{OpRef}
use Rattle.vdm_kinds.specs.declared.member.VarRef.{VarRef}
use Rattle.vdm_kinds.specs.declared.name.Name.{Name}
use Rattle.vdm_kinds.specs.declared.run_fault.RunFault.TheVariants.{NoMatch, NoReturn, Post, Pre, TypeFault, UncaughtExit, Undefined}
use Rattle.vdm_kinds.specs.declared.sign.Sign.TheVariants.{And, Div, Equal, Greater, Less, Minus, Plus}
use Rattle.vdm_values.specs.declared.slot.Slot.{Slot}
use Rattle.vdm_values.specs.declared.slot.Slot.TheVariants.{Unset, Held}
use Rattle.abstract_syntax.specs.Literals.{whole_literal, boolean_literal}
use Rattle.abstract_syntax.specs.Types.{basic_type, named_type}
use Rattle.abstract_syntax.specs.Values.{number, object}
use Rattle.abstract_syntax.specs.Expressions.{ExprTree, literal, named, qualified, old_value, self_object, result_value, joined, apply, create, select, select_of_class, no_exprs, one_expr, bound, literal_pattern}
use Rattle.abstract_syntax.specs.Statements.{variable, assign, assign_together, block, returns, exits, trap_exit, skips, no_stmts, one_stmt}
use Rattle.abstract_syntax.specs.Classes.{VariableTree, variable_item, written, subclass_responsibility, OperationTree, variables, operations, SpecTree}
use Rattle.run_journal.specs.declared.answer.Answer.TheVariants.{Done, Object, Slot as Holds}
use Rattle.run_journal.specs.declared.question.Question.TheVariants.{Class, New, Req, Act, Fin, Read, Write, End, Fail}
use Rattle.vdm_meaning.specs.Worked.{in_spec, in_expr, Said}

-- ---- the names

abbrev base : Name
base = record { 0 = 3 }

abbrev sub : Name
sub = record { 0 = 4 }

abbrev total : Name
total = record { 0 = 5 }

abbrev spare : Name
spare = record { 0 = 6 }

abbrev n : Name
n = record { 0 = 7 }

abbrev k : Name
k = record { 0 = 8 }

abbrev add : Name
add = record { 0 = 9 }

abbrev a : Name
a = record { 0 = 10 }

abbrev b : Name
b = record { 0 = 11 }

abbrev bump : Name
bump = record { 0 = 12 }

abbrev twice : Name
twice = record { 0 = 13 }

abbrev both : Name
both = record { 0 = 14 }

abbrev moves : Name
moves = record { 0 = 15 }

abbrev who : Name
who = record { 0 = 16 }

abbrev hears : Name
hears = record { 0 = 17 }

abbrev leave : Name
leave = record { 0 = 18 }

abbrev tries : Name
tries = record { 0 = 19 }

abbrev safe : Name
safe = record { 0 = 20 }

abbrev x : Name
x = record { 0 = 21 }

abbrev owes : Name
owes = record { 0 = 22 }

abbrev clear : Name
clear = record { 0 = 23 }

abbrev wrong : Name
wrong = record { 0 = 24 }

abbrev todo : Name
todo = record { 0 = 25 }

abbrev fills : Name
fills = record { 0 = 26 }

abbrev three : Name
three = record { 0 = 27 }

abbrev me : Name
me = record { 0 = 28 }

abbrev flag : Name
flag = record { 0 = 29 }

-- ---- the classes

abbrev private : Access
private = record { is_static = false; level = Private }

abbrev private_static : Access
private_static = record { is_static = true; level = Private }

abbrev public : Access
public = record { is_static = false; level = Public }

abbrev public_static : Access
public_static = record { is_static = true; level = Public }

abbrev variable_total : VariableTree
variable_total = record {
  access = private_static;
  name = total;
  name_place = (in_spec 3 10);
  declared = basic_type Nat (in_spec 3 18);
  initial = Some (literal (whole_literal (pos 5)) (in_spec 3 25));
  place = (in_spec 3 3);
}

abbrev variable_spare : VariableTree
variable_spare = record {
  access = private_static;
  name = spare;
  name_place = (in_spec 4 10);
  declared = basic_type Nat (in_spec 4 18);
  initial = None;
  place = (in_spec 4 3);
}

abbrev variable_n : VariableTree
variable_n = record {
  access = private;
  name = n;
  name_place = (in_spec 5 3);
  declared = basic_type Nat (in_spec 5 7);
  initial = Some (literal (whole_literal (pos 0)) (in_spec 5 14));
  place = (in_spec 5 3);
}

abbrev operation_base_op : OperationTree
operation_base_op = record {
  access = public;
  name = base;
  name_place = (in_spec 7 10);
  parameters = basic_type Nat (in_spec 7 17) ∷ [];
  result_type = Some (named_type (record { class = None; name = base; name_place = (in_spec 7 25) }) (in_spec 7 25));
  patterns = bound k (in_spec 8 8) ∷ [];
  body = written (assign (variable n [] (in_spec 8 14)) (named k (in_spec 8 19)) (in_spec 8 14));
  pre = Some (joined (named k (in_spec 9 7)) Less (literal (whole_literal (pos 9)) (in_spec 9 11)) (in_spec 9 9));
  post = None;
  place = (in_spec 7 3);
}

abbrev operation_base_again : OperationTree
operation_base_again = record {
  access = public;
  name = base;
  name_place = (in_spec 10 10);
  parameters = [];
  result_type = Some (named_type (record { class = None; name = base; name_place = (in_spec 10 24) }) (in_spec 10 24));
  patterns = [];
  body = written (returns (Some (self_object (in_spec 11 20))) (in_spec 11 13));
  pre = None;
  post = None;
  place = (in_spec 10 3);
}

abbrev operation_add : OperationTree
operation_add = record {
  access = public;
  name = add;
  name_place = (in_spec 12 10);
  parameters = basic_type Nat (in_spec 12 16) ∷ basic_type Nat (in_spec 12 22) ∷ [];
  result_type = Some (basic_type Nat (in_spec 12 30));
  patterns = bound a (in_spec 13 7) ∷ bound b (in_spec 13 10) ∷ [];
  body = written (block [] (one_stmt (assign (variable n [] (in_spec 13 17)) (joined (joined (named n (in_spec 13 22)) Plus (named a (in_spec 13 26)) (in_spec 13 24)) Plus (named b (in_spec 13 30)) (in_spec 13 28)) (in_spec 13 17)) (one_stmt (returns (Some (named n (in_spec 13 40))) (in_spec 13 33)) no_stmts)) (in_spec 13 16));
  pre = Some (joined (named a (in_spec 14 7)) Less (literal (whole_literal (pos 5)) (in_spec 14 11)) (in_spec 14 9));
  post = Some (joined (joined (named n (in_spec 15 8)) Equal (joined (joined (old_value n (in_spec 15 12)) Plus (named a (in_spec 15 17)) (in_spec 15 15)) Plus (named b (in_spec 15 21)) (in_spec 15 19)) (in_spec 15 10)) And (joined (result_value (in_spec 15 27)) Greater (old_value n (in_spec 15 36)) (in_spec 15 34)) (in_spec 15 23));
  place = (in_spec 12 3);
}

abbrev operation_bump : OperationTree
operation_bump = record {
  access = public_static;
  name = bump;
  name_place = (in_spec 16 17);
  parameters = [];
  result_type = Some (basic_type Nat (in_spec 16 31));
  patterns = [];
  body = written (block [] (one_stmt (assign (variable total [] (in_spec 17 14)) (joined (named total (in_spec 17 23)) Plus (literal (whole_literal (pos 1)) (in_spec 17 31)) (in_spec 17 29)) (in_spec 17 14)) (one_stmt (returns (Some (named total (in_spec 17 41))) (in_spec 17 34)) no_stmts)) (in_spec 17 13));
  pre = None;
  post = None;
  place = (in_spec 16 3);
}

abbrev operation_twice : OperationTree
operation_twice = record {
  access = public_static;
  name = twice;
  name_place = (in_spec 18 17);
  parameters = [];
  result_type = Some (basic_type Nat (in_spec 18 32));
  patterns = [];
  body = written (returns (Some (joined (apply (named bump (in_spec 19 21)) no_exprs (in_spec 19 25)) Plus (apply (named bump (in_spec 19 30)) no_exprs (in_spec 19 34)) (in_spec 19 28))) (in_spec 19 14));
  pre = None;
  post = None;
  place = (in_spec 18 3);
}

abbrev operation_both : OperationTree
operation_both = record {
  access = public_static;
  name = both;
  name_place = (in_spec 20 17);
  parameters = [];
  result_type = None;
  patterns = [];
  body = written (assign_together (record { target = variable total [] (in_spec 21 21); value = (literal (whole_literal (pos 8)) (in_spec 21 30)) } ∷ record { target = variable spare [] (in_spec 21 33); value = (named total (in_spec 21 42)) } ∷ []) (in_spec 21 13));
  pre = None;
  post = None;
  place = (in_spec 20 3);
}

abbrev operation_moves : OperationTree
operation_moves = record {
  access = public;
  name = moves;
  name_place = (in_spec 22 10);
  parameters = [];
  result_type = None;
  patterns = [];
  body = written (assign (variable total [] (in_spec 23 14)) (named n (in_spec 23 23)) (in_spec 23 14));
  pre = None;
  post = Some (joined (joined (joined (old_value n (in_spec 24 8)) Plus (old_value total (in_spec 24 13)) (in_spec 24 11)) Equal (literal (whole_literal (pos 5)) (in_spec 24 22)) (in_spec 24 20)) And (joined (named total (in_spec 24 28)) Less (joined (old_value n (in_spec 24 36)) Plus (literal (whole_literal (pos 1)) (in_spec 24 41)) (in_spec 24 39)) (in_spec 24 34)) (in_spec 24 24));
  place = (in_spec 22 3);
}

abbrev operation_who : OperationTree
operation_who = record {
  access = public;
  name = who;
  name_place = (in_spec 25 10);
  parameters = [];
  result_type = Some (basic_type Nat (in_spec 25 23));
  patterns = [];
  body = written (returns (Some (literal (whole_literal (pos 1)) (in_spec 26 19))) (in_spec 26 12));
  pre = None;
  post = None;
  place = (in_spec 25 3);
}

abbrev operation_hears : OperationTree
operation_hears = record {
  access = public;
  name = hears;
  name_place = (in_spec 27 10);
  parameters = [];
  result_type = Some (basic_type Nat (in_spec 27 25));
  patterns = [];
  body = written (returns (Some (apply (named who (in_spec 28 21)) no_exprs (in_spec 28 24))) (in_spec 28 14));
  pre = None;
  post = None;
  place = (in_spec 27 3);
}

abbrev operation_leave : OperationTree
operation_leave = record {
  access = public;
  name = leave;
  name_place = (in_spec 29 10);
  parameters = basic_type Nat (in_spec 29 18) ∷ [];
  result_type = Some (basic_type Bool (in_spec 29 26));
  patterns = bound a (in_spec 30 9) ∷ [];
  body = written (exits (Some (named a (in_spec 30 20))) (in_spec 30 15));
  pre = None;
  post = None;
  place = (in_spec 29 3);
}

abbrev operation_tries : OperationTree
operation_tries = record {
  access = public;
  name = tries;
  name_place = (in_spec 31 10);
  parameters = basic_type Nat (in_spec 31 18) ∷ [];
  result_type = Some (basic_type Nat (in_spec 31 26));
  patterns = bound b (in_spec 32 9) ∷ [];
  body = written (returns (Some (named b (in_spec 32 22))) (in_spec 32 15));
  pre = Some (apply (named leave (in_spec 33 7)) (one_expr (named b (in_spec 33 13)) no_exprs) (in_spec 33 12));
  post = None;
  place = (in_spec 31 3);
}

abbrev operation_safe : OperationTree
operation_safe = record {
  access = public;
  name = safe;
  name_place = (in_spec 34 10);
  parameters = basic_type Nat (in_spec 34 17) ∷ [];
  result_type = Some (basic_type Nat (in_spec 34 25));
  patterns = bound a (in_spec 35 8) ∷ [];
  body = written (trap_exit (bound x (in_spec 35 19)) (returns (Some (joined (named x (in_spec 35 33)) Plus (named a (in_spec 35 37)) (in_spec 35 35))) (in_spec 35 26)) (returns (Some (apply (named tries (in_spec 35 49)) (one_expr (joined (named a (in_spec 35 55)) Plus (literal (whole_literal (pos 1)) (in_spec 35 59)) (in_spec 35 57)) no_exprs) (in_spec 35 54))) (in_spec 35 42)) (in_spec 35 14));
  pre = None;
  post = None;
  place = (in_spec 34 3);
}

abbrev operation_owes : OperationTree
operation_owes = record {
  access = public;
  name = owes;
  name_place = (in_spec 36 10);
  parameters = [];
  result_type = Some (basic_type Nat (in_spec 36 24));
  patterns = [];
  body = written (skips (in_spec 37 13));
  pre = None;
  post = None;
  place = (in_spec 36 3);
}

abbrev operation_clear : OperationTree
operation_clear = record {
  access = public;
  name = clear;
  name_place = (in_spec 38 10);
  parameters = [];
  result_type = None;
  patterns = [];
  body = written (assign (variable n [] (in_spec 39 14)) (literal (whole_literal (pos 0)) (in_spec 39 19)) (in_spec 39 14));
  pre = None;
  post = None;
  place = (in_spec 38 3);
}

abbrev operation_wrong : OperationTree
operation_wrong = record {
  access = public;
  name = wrong;
  name_place = (in_spec 40 10);
  parameters = [];
  result_type = Some (basic_type Nat (in_spec 40 25));
  patterns = [];
  body = written (returns (Some (literal (whole_literal (pos 1)) (in_spec 41 21))) (in_spec 41 14));
  pre = None;
  post = Some (joined (result_value (in_spec 42 8)) Equal (literal (whole_literal (pos 2)) (in_spec 42 17)) (in_spec 42 15));
  place = (in_spec 40 3);
}

abbrev operation_todo : OperationTree
operation_todo = record {
  access = public;
  name = todo;
  name_place = (in_spec 43 10);
  parameters = basic_type Nat (in_spec 43 17) ∷ [];
  result_type = Some (basic_type Nat (in_spec 43 25));
  patterns = bound a (in_spec 44 8) ∷ [];
  body = subclass_responsibility;
  pre = Some (joined (named a (in_spec 45 7)) Greater (literal (whole_literal (pos 0)) (in_spec 45 11)) (in_spec 45 9));
  post = None;
  place = (in_spec 43 3);
}

abbrev operation_fills : OperationTree
operation_fills = record {
  access = public;
  name = fills;
  name_place = (in_spec 46 10);
  parameters = [];
  result_type = None;
  patterns = [];
  body = written (assign (variable spare [] (in_spec 47 14)) (literal (whole_literal (pos 1)) (in_spec 47 23)) (in_spec 47 14));
  pre = None;
  post = Some (joined (old_value spare (in_spec 48 8)) Equal (literal (whole_literal (pos 0)) (in_spec 48 17)) (in_spec 48 15));
  place = (in_spec 46 3);
}

abbrev operation_three : OperationTree
operation_three = record {
  access = public;
  name = three;
  name_place = (in_spec 49 10);
  parameters = basic_type Nat (in_spec 49 18) ∷ [];
  result_type = Some (basic_type Nat (in_spec 49 26));
  patterns = literal_pattern (whole_literal (pos 3)) (in_spec 50 9) ∷ [];
  body = written (returns (Some (literal (whole_literal (pos 1)) (in_spec 50 22))) (in_spec 50 15));
  pre = None;
  post = None;
  place = (in_spec 49 3);
}

abbrev operation_me : OperationTree
operation_me = record {
  access = public;
  name = me;
  name_place = (in_spec 51 10);
  parameters = [];
  result_type = Some (named_type (record { class = None; name = base; name_place = (in_spec 51 22) }) (in_spec 51 22));
  patterns = [];
  body = written (returns (Some (self_object (in_spec 52 18))) (in_spec 52 11));
  pre = None;
  post = None;
  place = (in_spec 51 3);
}

abbrev operation_flag : OperationTree
operation_flag = record {
  access = public;
  name = flag;
  name_place = (in_spec 53 10);
  parameters = [];
  result_type = Some (basic_type Nat (in_spec 53 24));
  patterns = [];
  body = written (returns (Some (literal (boolean_literal true) (in_spec 54 20))) (in_spec 54 13));
  pre = None;
  post = None;
  place = (in_spec 53 3);
}

abbrev operation_who_of_sub : OperationTree
operation_who_of_sub = record {
  access = public;
  name = who;
  name_place = (in_spec 58 10);
  parameters = [];
  result_type = Some (basic_type Nat (in_spec 58 23));
  patterns = [];
  body = written (returns (Some (literal (whole_literal (pos 2)) (in_spec 59 19))) (in_spec 59 12));
  pre = None;
  post = None;
  place = (in_spec 58 3);
}

abbrev pub base_spec : SpecTree
base_spec = record {
  classes = record {
    name = base;
    name_place = (in_spec 1 7);
    superclasses = [];
    blocks = variables (variable_item variable_total ∷ variable_item variable_spare ∷ variable_item variable_n ∷ []) (in_spec 2 1) ∷ operations (operation_base_op ∷ operation_base_again ∷ operation_add ∷ operation_bump ∷ operation_twice ∷ operation_both ∷ operation_moves ∷ operation_who ∷ operation_hears ∷ operation_leave ∷ operation_tries ∷ operation_safe ∷ operation_owes ∷ operation_clear ∷ operation_wrong ∷ operation_todo ∷ operation_fills ∷ operation_three ∷ operation_me ∷ operation_flag ∷ []) (in_spec 6 1) ∷ [];
    place = (in_spec 1 1);
  } ∷ record {
    name = sub;
    name_place = (in_spec 56 7);
    superclasses = record { name = base; place = (in_spec 56 26) } ∷ [];
    blocks = operations (operation_who_of_sub ∷ []) (in_spec 57 1) ∷ [];
    place = (in_spec 56 1);
  } ∷ [];
}

-- ---- the talk

abbrev holds : ℕ → Slot
holds value = Held (number (pos value))

abbrev op_of : Name → Name → ℕ → OpRef
op_of class name arity = record { class = class; name = name; arity = arity }

abbrev var_of : Name → Name → VarRef
var_of class name = record { class = class; name = name }

-- the class objects are 0, 1 and 2, and so a new object is 3
abbrev pub said_at_first : List Said
said_at_first = (Class 0 io [], Done) ∷ (Class 1 base (holds 5 ∷ Unset ∷ []), Done) ∷ (Class 2 sub [], Done) ∷ []

-- ---- expressions, and what main says behind its class objects

-- the arguments, the old value behind the activation, `pre`, the body, `post`, and the end: `new Base(3).add(1, 2)`
abbrev pub added : ExprTree
added = apply (select (create base (in_expr 5) (one_expr (literal (whole_literal (pos 3)) (in_expr 10)) no_exprs) (in_expr 1)) add (in_expr 13) (in_expr 12)) (one_expr (literal (whole_literal (pos 1)) (in_expr 17)) (one_expr (literal (whole_literal (pos 2)) (in_expr 20)) no_exprs)) (in_expr 16)

abbrev pub said_added : List Said
said_added = (New base (holds 0 ∷ []), Object 3) ∷ (Req 3 (op_of base base 1), Done) ∷ (Act 3 (op_of base base 1), Done) ∷ (Write 3 (record { var = (var_of base n); value = number (pos 3) } ∷ []), Done) ∷ (Fin 3 (op_of base base 1), Done) ∷ (Req 3 (op_of base add 2), Done) ∷ (Act 3 (op_of base add 2), Done) ∷ (Read 3 (var_of base n), Holds (holds 3)) ∷ (Read 3 (var_of base n), Holds (holds 3)) ∷ (Write 3 (record { var = (var_of base n); value = number (pos 6) } ∷ []), Done) ∷ (Read 3 (var_of base n), Holds (holds 6)) ∷ (Read 3 (var_of base n), Holds (holds 6)) ∷ (Fin 3 (op_of base add 2), Done) ∷ (End (holds 6), Done) ∷ []

-- an argument of another type: nothing is asked for: `new Base(3).add(1, true)`
abbrev pub misfit : ExprTree
misfit = apply (select (create base (in_expr 5) (one_expr (literal (whole_literal (pos 3)) (in_expr 10)) no_exprs) (in_expr 1)) add (in_expr 13) (in_expr 12)) (one_expr (literal (whole_literal (pos 1)) (in_expr 17)) (one_expr (literal (boolean_literal true) (in_expr 20)) no_exprs)) (in_expr 16)

abbrev pub said_misfit : List Said
said_misfit = (New base (holds 0 ∷ []), Object 3) ∷ (Req 3 (op_of base base 1), Done) ∷ (Act 3 (op_of base base 1), Done) ∷ (Write 3 (record { var = (var_of base n); value = number (pos 3) } ∷ []), Done) ∷ (Fin 3 (op_of base base 1), Done) ∷ (Fail TypeFault Unset (in_expr 20), Done) ∷ []

-- `pre` is false: behind the activation, and nothing finishes: `new Base(3).add(7, 1)`
abbrev pub false_pre : ExprTree
false_pre = apply (select (create base (in_expr 5) (one_expr (literal (whole_literal (pos 3)) (in_expr 10)) no_exprs) (in_expr 1)) add (in_expr 13) (in_expr 12)) (one_expr (literal (whole_literal (pos 7)) (in_expr 17)) (one_expr (literal (whole_literal (pos 1)) (in_expr 20)) no_exprs)) (in_expr 16)

abbrev pub said_false_pre : List Said
said_false_pre = (New base (holds 0 ∷ []), Object 3) ∷ (Req 3 (op_of base base 1), Done) ∷ (Act 3 (op_of base base 1), Done) ∷ (Write 3 (record { var = (var_of base n); value = number (pos 3) } ∷ []), Done) ∷ (Fin 3 (op_of base base 1), Done) ∷ (Req 3 (op_of base add 2), Done) ∷ (Act 3 (op_of base add 2), Done) ∷ (Read 3 (var_of base n), Holds (holds 3)) ∷ (Fail Pre Unset (in_expr 16), Done) ∷ []

-- `pre` of a constructor is false, at the word: `new Base(9)`
abbrev pub constructor_pre : ExprTree
constructor_pre = create base (in_expr 5) (one_expr (literal (whole_literal (pos 9)) (in_expr 10)) no_exprs) (in_expr 1)

abbrev pub said_constructor_pre : List Said
said_constructor_pre = (New base (holds 0 ∷ []), Object 3) ∷ (Req 3 (op_of base base 1), Done) ∷ (Act 3 (op_of base base 1), Done) ∷ (Fail Pre Unset (in_expr 1), Done) ∷ []

-- an argument of a constructor is tested behind the new object: `new Base(true)`
abbrev pub constructor_misfit : ExprTree
constructor_misfit = create base (in_expr 5) (one_expr (literal (boolean_literal true) (in_expr 10)) no_exprs) (in_expr 1)

abbrev pub said_constructor_misfit : List Said
said_constructor_misfit = (New base (holds 0 ∷ []), Object 3) ∷ (Fail TypeFault Unset (in_expr 10), Done) ∷ []

-- a static operation runs on the class object, where the static variable stands: `Base`bump()`
abbrev pub static_call : ExprTree
static_call = apply (qualified base bump (in_expr 6) (in_expr 1)) no_exprs (in_expr 10)

abbrev pub said_static_call : List Said
said_static_call = (Req 1 (op_of base bump 0), Done) ∷ (Act 1 (op_of base bump 0), Done) ∷ (Read 1 (var_of base total), Holds (holds 5)) ∷ (Write 1 (record { var = (var_of base total); value = number (pos 6) } ∷ []), Done) ∷ (Read 1 (var_of base total), Holds (holds 6)) ∷ (Fin 1 (op_of base bump 0), Done) ∷ (End (holds 6), Done) ∷ []

-- ... also where it is called through an object: `new Sub().bump()`
abbrev pub static_through : ExprTree
static_through = apply (select (create sub (in_expr 5) no_exprs (in_expr 1)) bump (in_expr 11) (in_expr 10)) no_exprs (in_expr 15)

abbrev pub said_static_through : List Said
said_static_through = (New sub (holds 0 ∷ []), Object 3) ∷ (Req 1 (op_of base bump 0), Done) ∷ (Act 1 (op_of base bump 0), Done) ∷ (Read 1 (var_of base total), Holds (holds 5)) ∷ (Write 1 (record { var = (var_of base total); value = number (pos 6) } ∷ []), Done) ∷ (Read 1 (var_of base total), Holds (holds 6)) ∷ (Fin 1 (op_of base bump 0), Done) ∷ (End (holds 6), Done) ∷ []

-- a static operation calls another by its name: `Base`twice()`
abbrev pub static_inside : ExprTree
static_inside = apply (qualified base twice (in_expr 6) (in_expr 1)) no_exprs (in_expr 11)

abbrev pub said_static_inside : List Said
said_static_inside = (Req 1 (op_of base twice 0), Done) ∷ (Act 1 (op_of base twice 0), Done) ∷ (Req 1 (op_of base bump 0), Done) ∷ (Act 1 (op_of base bump 0), Done) ∷ (Read 1 (var_of base total), Holds (holds 5)) ∷ (Write 1 (record { var = (var_of base total); value = number (pos 6) } ∷ []), Done) ∷ (Read 1 (var_of base total), Holds (holds 6)) ∷ (Fin 1 (op_of base bump 0), Done) ∷ (Req 1 (op_of base bump 0), Done) ∷ (Act 1 (op_of base bump 0), Done) ∷ (Read 1 (var_of base total), Holds (holds 6)) ∷ (Write 1 (record { var = (var_of base total); value = number (pos 7) } ∷ []), Done) ∷ (Read 1 (var_of base total), Holds (holds 7)) ∷ (Fin 1 (op_of base bump 0), Done) ∷ (Fin 1 (op_of base twice 0), Done) ∷ (End (holds 13), Done) ∷ []

-- a constructor may give a value, and the object is given whatever it gave: `new Base()`
abbrev pub constructor_given : ExprTree
constructor_given = create base (in_expr 5) no_exprs (in_expr 1)

abbrev pub said_constructor_given : List Said
said_constructor_given = (New base (holds 0 ∷ []), Object 3) ∷ (Req 3 (op_of base base 0), Done) ∷ (Act 3 (op_of base base 0), Done) ∷ (Fin 3 (op_of base base 0), Done) ∷ (End (Held (object 3 base)), Done) ∷ []

-- static variables of one class are written together: `Base`both()`
abbrev pub together : ExprTree
together = apply (qualified base both (in_expr 6) (in_expr 1)) no_exprs (in_expr 10)

abbrev pub said_together : List Said
said_together = (Req 1 (op_of base both 0), Done) ∷ (Act 1 (op_of base both 0), Done) ∷ (Read 1 (var_of base total), Holds (holds 5)) ∷ (Write 1 (record { var = (var_of base total); value = number (pos 8) } ∷ record { var = (var_of base spare); value = number (pos 5) } ∷ []), Done) ∷ (Fin 1 (op_of base both 0), Done) ∷ (End Unset, Done) ∷ []

-- old values are read once each, as they are first named: `new Sub().moves()`
abbrev pub two_olds : ExprTree
two_olds = apply (select (create sub (in_expr 5) no_exprs (in_expr 1)) moves (in_expr 11) (in_expr 10)) no_exprs (in_expr 16)

abbrev pub said_two_olds : List Said
said_two_olds = (New sub (holds 0 ∷ []), Object 3) ∷ (Req 3 (op_of base moves 0), Done) ∷ (Act 3 (op_of base moves 0), Done) ∷ (Read 3 (var_of base n), Holds (holds 0)) ∷ (Read 1 (var_of base total), Holds (holds 5)) ∷ (Read 3 (var_of base n), Holds (holds 0)) ∷ (Write 1 (record { var = (var_of base total); value = number (pos 0) } ∷ []), Done) ∷ (Read 1 (var_of base total), Holds (holds 0)) ∷ (Fin 3 (op_of base moves 0), Done) ∷ (End Unset, Done) ∷ []

-- a name alone reaches the operation of the object's own class: `new Sub().hears()`
abbrev pub late : ExprTree
late = apply (select (create sub (in_expr 5) no_exprs (in_expr 1)) hears (in_expr 11) (in_expr 10)) no_exprs (in_expr 16)

abbrev pub said_late : List Said
said_late = (New sub (holds 0 ∷ []), Object 3) ∷ (Req 3 (op_of base hears 0), Done) ∷ (Act 3 (op_of base hears 0), Done) ∷ (Req 3 (op_of sub who 0), Done) ∷ (Act 3 (op_of sub who 0), Done) ∷ (Fin 3 (op_of sub who 0), Done) ∷ (Fin 3 (op_of base hears 0), Done) ∷ (End (holds 2), Done) ∷ []

-- ... and behind the name of a class that class's: `new Sub().Base`who()`
abbrev pub of_class : ExprTree
of_class = apply (select_of_class (create sub (in_expr 5) no_exprs (in_expr 1)) base (in_expr 11) who (in_expr 16) (in_expr 10)) no_exprs (in_expr 19)

abbrev pub said_of_class : List Said
said_of_class = (New sub (holds 0 ∷ []), Object 3) ∷ (Req 3 (op_of base who 0), Done) ∷ (Act 3 (op_of base who 0), Done) ∷ (Fin 3 (op_of base who 0), Done) ∷ (End (holds 1), Done) ∷ []

-- an exit that leaves a body asks to finish, and one that leaves `pre` doesn't: `new Sub().tries(4)`
abbrev pub exit_of_pre : ExprTree
exit_of_pre = apply (select (create sub (in_expr 5) no_exprs (in_expr 1)) tries (in_expr 11) (in_expr 10)) (one_expr (literal (whole_literal (pos 4)) (in_expr 17)) no_exprs) (in_expr 16)

abbrev pub said_exit_of_pre : List Said
said_exit_of_pre = (New sub (holds 0 ∷ []), Object 3) ∷ (Req 3 (op_of base tries 1), Done) ∷ (Act 3 (op_of base tries 1), Done) ∷ (Req 3 (op_of base leave 1), Done) ∷ (Act 3 (op_of base leave 1), Done) ∷ (Fin 3 (op_of base leave 1), Done) ∷ (Fail UncaughtExit (holds 4) (in_spec 30 15), Done) ∷ []

-- ... and is handled among the caller's locals: `new Sub().safe(4)`
abbrev pub trapped_exit : ExprTree
trapped_exit = apply (select (create sub (in_expr 5) no_exprs (in_expr 1)) safe (in_expr 11) (in_expr 10)) (one_expr (literal (whole_literal (pos 4)) (in_expr 16)) no_exprs) (in_expr 15)

abbrev pub said_trapped_exit : List Said
said_trapped_exit = (New sub (holds 0 ∷ []), Object 3) ∷ (Req 3 (op_of base safe 1), Done) ∷ (Act 3 (op_of base safe 1), Done) ∷ (Req 3 (op_of base tries 1), Done) ∷ (Act 3 (op_of base tries 1), Done) ∷ (Req 3 (op_of base leave 1), Done) ∷ (Act 3 (op_of base leave 1), Done) ∷ (Fin 3 (op_of base leave 1), Done) ∷ (Fin 3 (op_of base safe 1), Done) ∷ (End (holds 9), Done) ∷ []

-- a result that is due did not come: nothing finishes: `new Sub().owes()`
abbrev pub no_result : ExprTree
no_result = apply (select (create sub (in_expr 5) no_exprs (in_expr 1)) owes (in_expr 11) (in_expr 10)) no_exprs (in_expr 15)

abbrev pub said_no_result : List Said
said_no_result = (New sub (holds 0 ∷ []), Object 3) ∷ (Req 3 (op_of base owes 0), Done) ∷ (Act 3 (op_of base owes 0), Done) ∷ (Fail NoReturn Unset (in_expr 15), Done) ∷ []

-- no value is wanted of the whole expression: `new Sub().clear()`
abbrev pub nothing_given : ExprTree
nothing_given = apply (select (create sub (in_expr 5) no_exprs (in_expr 1)) clear (in_expr 11) (in_expr 10)) no_exprs (in_expr 16)

abbrev pub said_nothing_given : List Said
said_nothing_given = (New sub (holds 0 ∷ []), Object 3) ∷ (Req 3 (op_of base clear 0), Done) ∷ (Act 3 (op_of base clear 0), Done) ∷ (Write 3 (record { var = (var_of base n); value = number (pos 0) } ∷ []), Done) ∷ (Fin 3 (op_of base clear 0), Done) ∷ (End Unset, Done) ∷ []

-- where a value is wanted and none came the call finishes first: `1 + new Sub().clear()`
abbrev pub nothing_wanted : ExprTree
nothing_wanted = joined (literal (whole_literal (pos 1)) (in_expr 1)) Plus (apply (select (create sub (in_expr 9) no_exprs (in_expr 5)) clear (in_expr 15) (in_expr 14)) no_exprs (in_expr 20)) (in_expr 3)

abbrev pub said_nothing_wanted : List Said
said_nothing_wanted = (New sub (holds 0 ∷ []), Object 3) ∷ (Req 3 (op_of base clear 0), Done) ∷ (Act 3 (op_of base clear 0), Done) ∷ (Write 3 (record { var = (var_of base n); value = number (pos 0) } ∷ []), Done) ∷ (Fin 3 (op_of base clear 0), Done) ∷ (Fail NoReturn Unset (in_expr 20), Done) ∷ []

-- `post` is false: nothing finishes: `new Sub().wrong()`
abbrev pub false_post : ExprTree
false_post = apply (select (create sub (in_expr 5) no_exprs (in_expr 1)) wrong (in_expr 11) (in_expr 10)) no_exprs (in_expr 16)

abbrev pub said_false_post : List Said
said_false_post = (New sub (holds 0 ∷ []), Object 3) ∷ (Req 3 (op_of base wrong 0), Done) ∷ (Act 3 (op_of base wrong 0), Done) ∷ (Fail Post Unset (in_expr 16), Done) ∷ []

-- `pre` comes before a body that is not written: `new Sub().todo(0)`
abbrev pub unwritten_pre : ExprTree
unwritten_pre = apply (select (create sub (in_expr 5) no_exprs (in_expr 1)) todo (in_expr 11) (in_expr 10)) (one_expr (literal (whole_literal (pos 0)) (in_expr 16)) no_exprs) (in_expr 15)

abbrev pub said_unwritten_pre : List Said
said_unwritten_pre = (New sub (holds 0 ∷ []), Object 3) ∷ (Req 3 (op_of base todo 1), Done) ∷ (Act 3 (op_of base todo 1), Done) ∷ (Fail Pre Unset (in_expr 15), Done) ∷ []

-- ... which is undefined at the call: `new Sub().todo(1)`
abbrev pub unwritten : ExprTree
unwritten = apply (select (create sub (in_expr 5) no_exprs (in_expr 1)) todo (in_expr 11) (in_expr 10)) (one_expr (literal (whole_literal (pos 1)) (in_expr 16)) no_exprs) (in_expr 15)

abbrev pub said_unwritten : List Said
said_unwritten = (New sub (holds 0 ∷ []), Object 3) ∷ (Req 3 (op_of base todo 1), Done) ∷ (Act 3 (op_of base todo 1), Done) ∷ (Fail Undefined Unset (in_expr 15), Done) ∷ []

-- a variable that was unset is undefined where `post` names its old value: `new Sub().fills()`
abbrev pub unset_old : ExprTree
unset_old = apply (select (create sub (in_expr 5) no_exprs (in_expr 1)) fills (in_expr 11) (in_expr 10)) no_exprs (in_expr 16)

abbrev pub said_unset_old : List Said
said_unset_old = (New sub (holds 0 ∷ []), Object 3) ∷ (Req 3 (op_of base fills 0), Done) ∷ (Act 3 (op_of base fills 0), Done) ∷ (Read 1 (var_of base spare), Holds Unset) ∷ (Write 1 (record { var = (var_of base spare); value = number (pos 1) } ∷ []), Done) ∷ (Fail Undefined Unset (in_spec 48 8), Done) ∷ []

-- a parameter's pattern does not match: `new Sub().three(4)`
abbrev pub no_match : ExprTree
no_match = apply (select (create sub (in_expr 5) no_exprs (in_expr 1)) three (in_expr 11) (in_expr 10)) (one_expr (literal (whole_literal (pos 4)) (in_expr 17)) no_exprs) (in_expr 16)

abbrev pub said_no_match : List Said
said_no_match = (New sub (holds 0 ∷ []), Object 3) ∷ (Req 3 (op_of base three 1), Done) ∷ (Act 3 (op_of base three 1), Done) ∷ (Fail NoMatch Unset (in_expr 16), Done) ∷ []

-- an object gives itself: `new Sub().me()`
abbrev pub itself : ExprTree
itself = apply (select (create sub (in_expr 5) no_exprs (in_expr 1)) me (in_expr 11) (in_expr 10)) no_exprs (in_expr 13)

abbrev pub said_itself : List Said
said_itself = (New sub (holds 0 ∷ []), Object 3) ∷ (Req 3 (op_of base me 0), Done) ∷ (Act 3 (op_of base me 0), Done) ∷ (Fin 3 (op_of base me 0), Done) ∷ (End (Held (object 3 sub)), Done) ∷ []

-- a result of another type: nothing finishes: `new Sub().flag()`
abbrev pub wrong_result : ExprTree
wrong_result = apply (select (create sub (in_expr 5) no_exprs (in_expr 1)) flag (in_expr 11) (in_expr 10)) no_exprs (in_expr 15)

abbrev pub said_wrong_result : List Said
said_wrong_result = (New sub (holds 0 ∷ []), Object 3) ∷ (Req 3 (op_of base flag 0), Done) ∷ (Act 3 (op_of base flag 0), Done) ∷ (Fail TypeFault Unset (in_expr 15), Done) ∷ []

-- a static variable stands on the class object, whoever names it: `new Sub().Base`total`
abbrev pub static_of_object : ExprTree
static_of_object = select_of_class (create sub (in_expr 5) no_exprs (in_expr 1)) base (in_expr 11) total (in_expr 16) (in_expr 10)

abbrev pub said_static_of_object : List Said
said_static_of_object = (New sub (holds 0 ∷ []), Object 3) ∷ (Read 1 (var_of base total), Holds (holds 5)) ∷ (End (holds 5), Done) ∷ []

-- ---- initialisers that fault

-- static variables of a class of its own: all initialisers come before the tests of their types
--
--     class Odd
--     instance variables
--       static s : nat := 1 - 2;
--       static t : nat := 1 div 0;
--     end Odd
--
-- and the same with `0 - 3` in the last line
abbrev s_name : Name
s_name = record { 0 = 4 }

abbrev t_name : Name
t_name = record { 0 = 5 }

abbrev pub one_faults : SpecTree
one_faults = record {
  classes = record {
    name = base;
    name_place = (in_spec 1 7);
    superclasses = [];
    blocks = variables (variable_item (record {
      access = private_static;
      name = s_name;
      name_place = (in_spec 3 10);
      declared = basic_type Nat (in_spec 3 14);
      initial = Some (joined (literal (whole_literal (pos 1)) (in_spec 3 21)) Minus (literal (whole_literal (pos 2)) (in_spec 3 25)) (in_spec 3 23));
      place = (in_spec 3 3);
    }) ∷ variable_item (record {
      access = private_static;
      name = t_name;
      name_place = (in_spec 4 10);
      declared = basic_type Nat (in_spec 4 14);
      initial = Some (joined (literal (whole_literal (pos 1)) (in_spec 4 21)) Div (literal (whole_literal (pos 0)) (in_spec 4 27)) (in_spec 4 23));
      place = (in_spec 4 3);
    }) ∷ []) (in_spec 2 1) ∷ [];
    place = (in_spec 1 1);
  } ∷ [];
}

abbrev pub two_misfit : SpecTree
two_misfit = record {
  classes = record {
    name = base;
    name_place = (in_spec 1 7);
    superclasses = [];
    blocks = variables (variable_item (record {
      access = private_static;
      name = s_name;
      name_place = (in_spec 3 10);
      declared = basic_type Nat (in_spec 3 14);
      initial = Some (joined (literal (whole_literal (pos 1)) (in_spec 3 21)) Minus (literal (whole_literal (pos 2)) (in_spec 3 25)) (in_spec 3 23));
      place = (in_spec 3 3);
    }) ∷ variable_item (record {
      access = private_static;
      name = t_name;
      name_place = (in_spec 4 10);
      declared = basic_type Nat (in_spec 4 14);
      initial = Some (joined (literal (whole_literal (pos 0)) (in_spec 4 21)) Minus (literal (whole_literal (pos 3)) (in_spec 4 25)) (in_spec 4 23));
      place = (in_spec 4 3);
    }) ∷ []) (in_spec 2 1) ∷ [];
    place = (in_spec 1 1);
  } ∷ [];
}
