-- The counter worked out.
use Rattle.std.proofs.Common.{◌≡◌, [], ◌++◌, refl}
use Rattle.vdm_kinds.specs.declared.run_fault.RunFault.TheVariants.{StepLimit}
use Rattle.vdm_values.specs.declared.slot.Slot.TheVariants.{Unset}
use Rattle.value_operators.specs.Outcomes.{sized}
use Rattle.run_journal.specs.declared.question.Question.TheVariants.{Fail}
use Rattle.plans.specs.Plans.{meaning}
use Rattle.vdm_meaning.specs.Main.{asks, main_code}
use Rattle.vdm_meaning.specs.Worked.{counter_spec, new_counter_three, said, said_first, said_for_the_object, said_for_inc, AreSaid, answers_in, in_spec, in_expr}

-- each question in turn
pub counter-said : AreSaid counter_spec new_counter_three 24 [] said
unfolding meaning sized
counter-said = (refl, (refl, (refl, (refl, (refl, (refl, (refl, (refl, (refl, (refl, (refl, (refl, (refl, (refl, (refl, (refl, (refl, (refl, (refl, (refl, (refl, (refl, (refl, refl)))))))))))))))))))))))

pub no_unit : main_code [] counter_spec new_counter_three 0 (answers_in said_first) ≡ asks (Fail StepLimit Unset (in_expr 20))
unfolding meaning sized
no_unit = refl

pub none_for_the_object : main_code [] counter_spec new_counter_three 1 (answers_in said_first) ≡ asks (Fail StepLimit Unset (in_expr 1))
unfolding meaning sized
none_for_the_object = refl

pub none_for_the_initialiser : main_code [] counter_spec new_counter_three 2 (answers_in said_first) ≡ asks (Fail StepLimit Unset (in_spec 3 14))
unfolding meaning sized
none_for_the_initialiser = refl

pub none_for_the_body : main_code [] counter_spec new_counter_three 3 (answers_in (said_first ++ said_for_the_object)) ≡ asks (Fail StepLimit Unset (in_spec 8 14))
unfolding meaning sized
none_for_the_body = refl

pub none_for_the_statement : main_code [] counter_spec new_counter_three 4 (answers_in (said_first ++ said_for_the_object)) ≡ asks (Fail StepLimit Unset (in_spec 8 15))
unfolding meaning sized
none_for_the_statement = refl

pub none_for_the_call : main_code [] counter_spec new_counter_three 5 (answers_in (said_first ++ said_for_the_object)) ≡ asks (Fail StepLimit Unset (in_spec 8 18))
unfolding meaning sized
none_for_the_call = refl

pub none_for_the_last_name : main_code [] counter_spec new_counter_three 23 (answers_in (said_first ++ said_for_the_object ++ said_for_inc 0 1 ++ said_for_inc 1 2 ++ said_for_inc 2 3)) ≡ asks (Fail StepLimit Unset (in_spec 8 43))
unfolding meaning sized
none_for_the_last_name = refl
