-- Prints, the time and tests of classes, worked out: the talk of main for expressions beside no class of a text but two, of which the second
-- stands below the first.
--
--     class Base end Base
--     class Sub is subclass of Base end Sub
use Rattle.std.specs.Prelude.{false, pos, List, [], ◌∷◌}
use Rattle.vdm_kinds.specs.NameList.{io}
use Rattle.vdm_kinds.specs.declared.name.Name.{Name}
use Rattle.vdm_kinds.specs.declared.sign.Sign.TheVariants.{Plus}
use Rattle.vdm_values.specs.declared.slot.Slot.TheVariants.{Unset, Held}
use Rattle.abstract_syntax.specs.Literals.{text_literal, whole_literal}
use Rattle.abstract_syntax.specs.Values.{ValueTree, boolean, character, number}
use Rattle.abstract_syntax.specs.Expressions.{ExprTree, literal, qualified, current_time, joined, sequence_enumeration, is_of_class, is_of_base_class, same_class, same_base_class, create, apply, select, no_exprs, one_expr}
use Rattle.abstract_syntax.specs.Classes.{ClassTree, SpecTree}
use Rattle.class_meaning.specs.Classes.{print, println}
use Rattle.run_journal.specs.declared.answer.Answer.TheVariants.{Done, Object, Ticks}
use Rattle.run_journal.specs.declared.question.Question.TheVariants.{Class, New, Print, Time, End}
use Rattle.vdm_meaning.specs.Worked.{in_spec, in_expr, Said}

abbrev pub base : Name
base = record { 0 = 3 }

abbrev pub sub : Name
sub = record { 0 = 4 }

abbrev class_base : ClassTree
class_base = record { name = base; name_place = in_spec 1 7; superclasses = []; blocks = []; place = in_spec 1 1 }

abbrev class_sub : ClassTree
class_sub = record {
  name = sub;
  name_place = in_spec 2 7;
  superclasses = record { name = base; place = in_spec 2 26 } ∷ [];
  blocks = [];
  place = in_spec 2 1;
}

abbrev pub two_classes : SpecTree
two_classes = record { classes = class_base ∷ class_sub ∷ [] }

-- main makes the class objects first
abbrev pub said_before : List Said
said_before = (Class 0 io [], Done) ∷ (Class 1 base [], Done) ∷ (Class 2 sub [], Done) ∷ []

-- ---- prints

-- ``IO`print("ab")``
abbrev pub printed : ExprTree
printed = apply (qualified io print (in_expr 4) (in_expr 1)) (one_expr (literal (text_literal (97 ∷ 98 ∷ [])) (in_expr 10)) no_exprs) (in_expr 9)

abbrev pub said_printed : List Said
said_printed = (Print (character 97 ∷ character 98 ∷ []), Done) ∷ (End Unset, Done) ∷ []

-- ``IO`println([])``: a line feed alone
abbrev pub printed_line : ExprTree
printed_line = apply (qualified io println (in_expr 4) (in_expr 1)) (one_expr (sequence_enumeration no_exprs (in_expr 12)) no_exprs) (in_expr 11)

abbrev pub said_line : List Said
said_line = (Print (character 10 ∷ []), Done) ∷ (End Unset, Done) ∷ []

-- `new IO().print("ab")`: no call, but the object is made
abbrev pub printed_through : ExprTree
printed_through =
    apply (select (create io (in_expr 5) no_exprs (in_expr 1)) print (in_expr 10) (in_expr 9))
    (one_expr (literal (text_literal (97 ∷ 98 ∷ [])) (in_expr 16)) no_exprs) (in_expr 15)

abbrev pub said_through : List Said
said_through = (New io [], Object 3) ∷ (Print (character 97 ∷ character 98 ∷ []), Done) ∷ (End Unset, Done) ∷ []

-- ---- the time

-- `time + 1`
abbrev pub told : ExprTree
told = joined (current_time (in_expr 1)) Plus (literal (whole_literal (pos 1)) (in_expr 8)) (in_expr 6)

abbrev pub said_told : List Said
said_told = (Time, Ticks 7) ∷ (End (Held (number (pos 8))), Done) ∷ []

-- ---- tests of classes

abbrev new_base : ExprTree
new_base = create base (in_expr 5) no_exprs (in_expr 1)

abbrev new_sub : ExprTree
new_sub = create sub (in_expr 5) no_exprs (in_expr 1)

abbrev pub sub_is_base : ExprTree
sub_is_base = is_of_class base (in_expr 11) new_sub (in_expr 1)

abbrev pub base_is_sub : ExprTree
base_is_sub = is_of_class sub (in_expr 11) new_base (in_expr 1)

abbrev pub sub_has_base : ExprTree
sub_has_base = is_of_base_class base (in_expr 15) new_sub (in_expr 1)

abbrev pub sub_is_no_base : ExprTree
sub_is_no_base = is_of_base_class sub (in_expr 15) new_sub (in_expr 1)

-- what main says where an object of this class is made and then this is the value
abbrev pub said_of : Name → ValueTree → List Said
said_of class v = (New class [], Object 3) ∷ (End (Held v), Done) ∷ []

abbrev pub not_the_same : ExprTree
not_the_same = same_class new_base new_sub (in_expr 1)

abbrev pub the_same_base : ExprTree
the_same_base = same_base_class new_base new_sub (in_expr 1)

abbrev pub no_object : ExprTree
no_object = same_class (literal (whole_literal (pos 1)) (in_expr 11)) (literal (whole_literal (pos 1)) (in_expr 14)) (in_expr 1)

-- ... and where one of each is made
abbrev pub said_of_both : ValueTree → List Said
said_of_both v = (New base [], Object 3) ∷ (New sub [], Object 4) ∷ (End (Held v), Done) ∷ []

abbrev pub said_of_none : List Said
said_of_none = (End (Held (boolean false)), Done) ∷ []
