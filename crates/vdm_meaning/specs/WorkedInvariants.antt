-- An instance invariant worked out: which writes it refuses, and the talk of main where one is refused.
--
--     class Tank
--     instance variables
--       level : nat := 1;
--       inv level < 3;
--     operations
--       public overfill : () ==> ()
--       overfill() == level := 3;
--     end Tank
use Rattle.std.specs.Prelude.{ℕ, false, pos, List, [], ◌∷◌, Some, None}
use Rattle.vdm_kinds.specs.NameList.{io}
use Rattle.vdm_kinds.specs.declared.access.Level.TheVariants.{Private, Public}
use Rattle.vdm_kinds.specs.declared.basic_type.BasicType.TheVariants.{Nat}
use Rattle.vdm_kinds.specs.declared.member.OpRef.{OpRef}
use Rattle.vdm_kinds.specs.declared.member.VarRef.{VarRef}
use Rattle.vdm_kinds.specs.declared.name.Name.{Name}
use Rattle.vdm_kinds.specs.declared.run_fault.RunFault.TheVariants.{InstanceInvariant}
use Rattle.vdm_kinds.specs.declared.sign.Sign.TheVariants.{Less}
use Rattle.vdm_values.specs.declared.slot.Slot.{Slot}
use Rattle.vdm_values.specs.declared.slot.Slot.TheVariants.{Unset, Held}
use Rattle.abstract_syntax.specs.Literals.{whole_literal}
use Rattle.abstract_syntax.specs.Types.{basic_type}
use Rattle.abstract_syntax.specs.Values.{number}
use Rattle.abstract_syntax.specs.Expressions.{ExprTree, literal, named, joined, apply, create, select, no_exprs}
use Rattle.abstract_syntax.specs.Statements.{variable, assign}
use Rattle.abstract_syntax.specs.Classes.{VariableTree, variable_item, invariant_item, written, OperationTree, variables, operations, SpecTree}
use Rattle.run_journal.specs.declared.answer.Answer.TheVariants.{Done, Object, Refused}
use Rattle.run_journal.specs.declared.deed.Deed.TheVariants.{New as Made}
use Rattle.run_journal.specs.declared.entry.Entry.{Entry}
use Rattle.run_journal.specs.declared.question.Question.TheVariants.{Class, New, Req, Act, Write, Fail}
use Rattle.run_journal.specs.declared.thread.Thread.TheVariants.{Main}
use Rattle.run_journal.specs.declared.write.Write.{Write as Pair}
use Rattle.run_journal.specs.Made.{entry}
use Rattle.vdm_meaning.specs.Worked.{in_spec, in_expr, Said}

-- ---- the text

abbrev pub tank : Name
tank = record { 0 = 3 }

abbrev level : Name
level = record { 0 = 4 }

abbrev overfill : Name
overfill = record { 0 = 5 }

-- with this initial level
abbrev variable_level : ℕ → VariableTree
variable_level initial = record {
  access = record { is_static = false; level = Private };
  name = level;
  name_place = in_spec 3 3;
  declared = basic_type Nat (in_spec 3 11);
  initial = Some (literal (whole_literal (pos initial)) (in_spec 3 18));
  place = in_spec 3 3;
}

abbrev below_three : ExprTree
below_three = joined (named level (in_spec 4 7)) Less (literal (whole_literal (pos 3)) (in_spec 4 15)) (in_spec 4 13)

abbrev operation_overfill : OperationTree
operation_overfill = record {
  access = record { is_static = false; level = Public };
  name = overfill;
  name_place = in_spec 6 10;
  parameters = [];
  result_type = None;
  patterns = [];
  body = written (assign (variable level [] (in_spec 7 17)) (literal (whole_literal (pos 3)) (in_spec 7 26)) (in_spec 7 17));
  pre = None;
  post = None;
  place = in_spec 6 3;
}

abbrev pub tank_spec : ℕ → SpecTree
tank_spec initial = record {
  classes = record {
    name = tank;
    name_place = in_spec 1 7;
    superclasses = [];
    blocks =
        variables (variable_item (variable_level initial) ∷ invariant_item below_three (in_spec 4 3) ∷ []) (in_spec 2 1)
        ∷ operations (operation_overfill ∷ []) (in_spec 5 1)
        ∷ [];
    place = in_spec 1 1;
  } ∷ [];
}

abbrev new_tank : ExprTree
new_tank = create tank (in_expr 5) no_exprs (in_expr 1)

-- `new Tank().overfill()`
abbrev pub overfilled : ExprTree
overfilled = apply (select new_tank overfill (in_expr 12) (in_expr 11)) no_exprs (in_expr 20)

-- ---- the object

abbrev pub var_level : VarRef
var_level = record { class = tank; name = level }

abbrev holds : ℕ → Slot
holds value = Held (number (pos value))

-- what stands on a tank that was just made
abbrev pub tank_made : List Entry
tank_made = entry Main 2 (Made tank (holds 1 ∷ [])) ∷ []

abbrev pub level_set : ℕ → List Pair
level_set value = record { var = var_level; value = number (pos value) } ∷ []

-- ---- the talk

abbrev op_overfill : OpRef
op_overfill = record { class = tank; name = overfill; arity = 0 }

-- the write is refused, and main fails at the assignment
abbrev pub said_overfilled : List Said
said_overfilled =
    (Class 0 io [], Done)
    ∷ (Class 1 tank [], Done)
    ∷ (New tank (holds 1 ∷ []), Object 2)
    ∷ (Req 2 op_overfill, Done)
    ∷ (Act 2 op_overfill, Done)
    ∷ (Write 2 (level_set 3), Refused)
    ∷ (Fail InstanceInvariant Unset (in_spec 7 17), Done)
    ∷ []

-- no tank is made that is too full
abbrev pub said_too_full : List Said
said_too_full = (Class 0 io [], Done) ∷ (Class 1 tank [], Done) ∷ (Fail InstanceInvariant Unset (in_expr 1), Done) ∷ []
