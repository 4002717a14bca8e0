-- A class worked out, with the talk of main for an expression of it.
--
--     class Counter
--     instance variables
--       n : nat := 0;
--     operations
--       inc : () ==> ()
--       inc() == n := n + 1;
--       public three : () ==> nat
--       three() == (inc(); inc(); inc(); return n);
--     end Counter
use Rattle.std.specs.Prelude.{◌≡◌, ℕ, false, pos, List, [], ◌∷◌, ◌++◌, Some, None}
use Rattle.vdm_kinds.specs.NameList.{io}
use Rattle.vdm_kinds.specs.declared.access.Level.TheVariants.{Private, Public}
use Rattle.vdm_kinds.specs.declared.member.OpRef.{OpRef}
use Rattle.vdm_kinds.specs.declared.member.VarRef.{VarRef}
use Rattle.vdm_kinds.specs.declared.name.Name.{Name}
use Rattle.vdm_kinds.specs.declared.basic_type.BasicType.TheVariants.{Nat}
use Rattle.vdm_kinds.specs.declared.sign.Sign.TheVariants.{Plus}
use Rattle.vdm_kinds.specs.declared.part.Part.TheVariants.{Spec, Expr}
use Rattle.vdm_kinds.specs.declared.place.Place.{Place}
use Rattle.vdm_values.specs.declared.slot.Slot.{Slot}
use Rattle.vdm_values.specs.declared.slot.Slot.TheVariants.{Held}
use Rattle.abstract_syntax.specs.Values.{number}
use Rattle.abstract_syntax.specs.Types.{basic_type}
use Rattle.abstract_syntax.specs.Literals.{whole_literal}
use Rattle.abstract_syntax.specs.Expressions.{ExprTree, literal, named, joined, apply, create, select, no_exprs}
use Rattle.abstract_syntax.specs.Statements.{variable, StmtTree, StmtTrees, assign, call, block, returns, no_stmts, one_stmt}
use Rattle.abstract_syntax.specs.Classes.{VariableTree, variable_item, written, OperationTree, variables, operations, SpecTree}
use Rattle.run_journal.specs.declared.answer.Answer.{Answer}
use Rattle.run_journal.specs.declared.answer.Answer.TheVariants.{Done, Object, Slot as Holds}
use Rattle.run_journal.specs.declared.question.Question.{Question}
use Rattle.run_journal.specs.declared.question.Question.TheVariants.{Class, New, Req, Act, Fin, Read, Write, End}
use Rattle.vdm_meaning.specs.Main.{asks, over, main_code}

-- ---- the text

-- a place in the text of the class, and one in the expression
abbrev pub in_spec : ℕ → ℕ → Place
in_spec line column = record { part = Spec; line = line; column = column }

abbrev pub in_expr : ℕ → Place
in_expr column = record { part = Expr; line = 1; column = column }

-- the names, behind those that are there before any text
abbrev pub counter : Name
counter = record { 0 = 3 }

abbrev pub n : Name
n = record { 0 = 4 }

abbrev pub inc : Name
inc = record { 0 = 5 }

abbrev pub three : Name
three = record { 0 = 6 }

abbrev variable_n : VariableTree
variable_n = record {
  access = record { is_static = false; level = Private };
  name = n;
  name_place = in_spec 3 3;
  declared = basic_type Nat (in_spec 3 7);
  initial = Some (literal (whole_literal (pos 0)) (in_spec 3 14));
  place = in_spec 3 3;
}

abbrev operation_inc : OperationTree
operation_inc = record {
  access = record { is_static = false; level = Private };
  name = inc;
  name_place = in_spec 5 3;
  parameters = [];
  result_type = None;
  patterns = [];
  body =
      written (assign (variable n [] (in_spec 6 12))
      (joined (named n (in_spec 6 17)) Plus (literal (whole_literal (pos 1)) (in_spec 6 21)) (in_spec 6 19)) (in_spec 6 12));
  pre = None;
  post = None;
  place = in_spec 5 3;
}

-- a call of `inc` whose name stands in this column, and whose bracket in that one
abbrev call_of_inc : ℕ → ℕ → StmtTree
call_of_inc column bracket = call (apply (named inc (in_spec 8 column)) no_exprs (in_spec 8 bracket)) (in_spec 8 column)

-- what stands in the brackets of `three`
abbrev statements_three : StmtTrees
statements_three =
    one_stmt (call_of_inc 15 18)
    (one_stmt (call_of_inc 22 25)
    (one_stmt (call_of_inc 29 32)
    (one_stmt (returns (Some (named n (in_spec 8 43))) (in_spec 8 36)) no_stmts)))

abbrev operation_three : OperationTree
operation_three = record {
  access = record { is_static = false; level = Public };
  name = three;
  name_place = in_spec 7 10;
  parameters = [];
  result_type = Some (basic_type Nat (in_spec 7 25));
  patterns = [];
  body = written (block [] statements_three (in_spec 8 14));
  pre = None;
  post = None;
  place = in_spec 7 3;
}

abbrev pub counter_spec : SpecTree
counter_spec = record {
  classes = record {
    name = counter;
    name_place = in_spec 1 7;
    superclasses = [];
    blocks = variables (variable_item variable_n ∷ []) (in_spec 2 1) ∷ operations (operation_inc ∷ operation_three ∷ []) (in_spec 4 1) ∷ [];
    place = in_spec 1 1;
  } ∷ [];
}

-- `new Counter().three()`
abbrev pub new_counter_three : ExprTree
new_counter_three = apply (select (create counter (in_expr 5) no_exprs (in_expr 1)) three (in_expr 15) (in_expr 14)) no_exprs (in_expr 20)

-- ---- the talk

-- a question, and how it is answered
abbrev pub Said : Type 0
Said = Question × Answer

abbrev op_inc : OpRef
op_inc = record { class = counter; name = inc; arity = 0 }

abbrev op_three : OpRef
op_three = record { class = counter; name = three; arity = 0 }

abbrev var_n : VarRef
var_n = record { class = counter; name = n }

abbrev holds : ℕ → Slot
holds value = Held (number (pos value))

-- the class objects are 0 and 1, and so the new object is 2
abbrev pub said_first : List Said
said_first = (Class 0 io [], Done) ∷ (Class 1 counter [], Done) ∷ []

abbrev pub said_for_the_object : List Said
said_for_the_object = (New counter (holds 0 ∷ []), Object 2) ∷ (Req 2 op_three, Done) ∷ (Act 2 op_three, Done) ∷ []

-- a call of `inc`: what `n` held, and what it holds then
abbrev pub said_for_inc : ℕ → ℕ → List Said
said_for_inc before after =
    (Req 2 op_inc, Done)
    ∷ (Act 2 op_inc, Done)
    ∷ (Read 2 var_n, Holds (holds before))
    ∷ (Write 2 (record { var = var_n; value = number (pos after) } ∷ []), Done)
    ∷ (Fin 2 op_inc, Done)
    ∷ []

abbrev pub said_last : List Said
said_last = (Read 2 var_n, Holds (holds 3)) ∷ (Fin 2 op_three, Done) ∷ (End (holds 3), Done) ∷ []

abbrev pub said : List Said
said = said_first ++ said_for_the_object ++ said_for_inc 0 1 ++ said_for_inc 1 2 ++ said_for_inc 2 3 ++ said_last

-- main asks these questions in turn, where each is answered so, and then it is over
abbrev pub AreSaid : SpecTree → ExprTree → ℕ → List Answer → List Said → Type 0
AreSaid spec tree units answers [] = main_code [] spec tree units answers ≡ over
AreSaid spec tree units answers (pair ∷ pairs) =
    (main_code [] spec tree units answers ≡ asks pair.0) × AreSaid spec tree units (answers ++ pair.1 ∷ []) pairs

-- the answers alone
abbrev pub answers_in : List Said → List Answer
answers_in [] = []
answers_in (pair ∷ pairs) = pair.1 ∷ answers_in pairs
