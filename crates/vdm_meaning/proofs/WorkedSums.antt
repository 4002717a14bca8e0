-- Sums worked out: what main's code asks for them.
use Rattle.std.proofs.Common.{◌≡◌, ◌^◌, ◌-◌, List, [], ◌∷◌, ap, refl, ℕ}
use Rattle.std.specs.Prelude.{pos}
use Rattle.vdm_kinds.specs.NameList.{io}
use Rattle.vdm_kinds.specs.declared.member.VarRef.{VarRef}
use Rattle.vdm_kinds.specs.declared.sign.Sign.TheVariants.{Plus}
use Rattle.vdm_kinds.specs.declared.place.Place.{Place}
use Rattle.vdm_kinds.specs.declared.run_fault.RunFault.TheVariants.{Overflow, StepLimit}
use Rattle.vdm_values.specs.declared.slot.Slot.TheVariants.{Unset, Held}
use Rattle.abstract_syntax.specs.Values.{number}
use Rattle.abstract_syntax.specs.Classes.{ClassTree, SpecTree}
use Rattle.abstract_syntax.specs.Literals.{whole_literal}
use Rattle.abstract_syntax.specs.Expressions.{ExprTree, literal, joined}
use Rattle.value_operators.specs.Outcomes.{sized}
use Rattle.run_journal.specs.declared.answer.Answer.{Answer}
use Rattle.run_journal.specs.declared.answer.Answer.TheVariants.{Done}
use Rattle.run_journal.specs.declared.question.Question.TheVariants.{Class, End, Fail}
use Rattle.plans.specs.Plans.{ask, meaning, part, run}
use Rattle.vdm_legal.specs.State.{class_variables}
use Rattle.node_meaning.specs.Tasks.{Code, noted, spent}
use Rattle.stmt_meaning.specs.Questions.{of_thread}
use Rattle.stmt_meaning.specs.TaskPlans.{plan_of}
use Rattle.vdm_meaning.specs.Main.{Standing, asks, ended, main_code, object_of_class, over, standing_of, static_slots, whole_expression}

-- no class
abbrev empty : SpecTree
empty = record { classes = [] }

-- the sum of two ones
abbrev one_plus_one : Place → Place → Place → ExprTree
one_plus_one p q plus = joined (literal (whole_literal (pos 1)) p) Plus (literal (whole_literal (pos 1)) q) plus

pub one_and_one : (p q plus : Place) → main_code [] empty (one_plus_one p q plus) 3 (Done ∷ []) ≡ asks (End (Held (number (pos 2))))
unfolding meaning sized
one_and_one p q plus = refl

pub one_and_one-over : (p q plus : Place) → main_code [] empty (one_plus_one p q plus) 3 (Done ∷ Done ∷ []) ≡ over
unfolding meaning sized
one_and_one-over p q plus = refl

pub too_few_units : (p q plus : Place) → main_code [] empty (one_plus_one p q plus) 2 (Done ∷ []) ≡ asks (Fail StepLimit Unset q)
unfolding meaning sized
too_few_units p q plus = refl

pub one_too_many : (p q plus : Place) → main_code [] empty (joined (literal (whole_literal (pos (2 ^ 127 - 1))) p) Plus (literal (whole_literal (pos 1)) q) plus) 3 (Done ∷ []) ≡ asks (Fail Overflow Unset plus)
unfolding meaning sized
one_too_many p q plus = refl

-- ---- with one class main asks once more

abbrev beside : ClassTree → SpecTree
beside class = record { classes = class ∷ [] }

-- what main does where these are the static variables of the class
abbrev plan_beside : ClassTree → ExprTree → List VarRef → Code
plan_beside class tree vars =
    ask (noted (Class 0 io [])) (λ answer. static_slots (beside class) vars (object_of_class (beside class) 1 class.name vars (part (whole_expression tree) ended)) [])

-- where main stands with that plan
abbrev stands_beside : ClassTree → ExprTree → ℕ → List Answer → List VarRef → Standing
stands_beside class tree units answers vars =
    standing_of [] (run (meaning (plan_of (of_thread (beside class))) spent) (plan_beside class tree vars) answers units)

-- the class has no static variable
module _ (class : ClassTree) (none : class_variables (beside class) class.name ≡ []) (p q plus : Place) where
  pub makes_a_class : main_code [] (beside class) (one_plus_one p q plus) 3 (Done ∷ []) ≡ asks (Class 1 class.name [])
  unfolding meaning sized
  makes_a_class = ap (stands_beside class (one_plus_one p q plus) 3 (Done ∷ [])) none

  pub beside_a_class : main_code [] (beside class) (one_plus_one p q plus) 3 (Done ∷ Done ∷ []) ≡ asks (End (Held (number (pos 2))))
  unfolding meaning sized
  beside_a_class = ap (stands_beside class (one_plus_one p q plus) 3 (Done ∷ Done ∷ [])) none

  pub beside_a_class-over : main_code [] (beside class) (one_plus_one p q plus) 3 (Done ∷ Done ∷ Done ∷ []) ≡ over
  unfolding meaning sized
  beside_a_class-over = ap (stands_beside class (one_plus_one p q plus) 3 (Done ∷ Done ∷ Done ∷ [])) none
