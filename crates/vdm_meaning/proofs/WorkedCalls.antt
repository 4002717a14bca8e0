-- What main asks for calls, worked out.
use Rattle.std.proofs.Common.{◌≡◌, [], ◌∷◌, ◌++◌, refl}
use Rattle.vdm_kinds.specs.declared.run_fault.RunFault.TheVariants.{DivideByZero, TypeFault}
use Rattle.vdm_values.specs.declared.slot.Slot.TheVariants.{Unset}
use Rattle.run_journal.specs.declared.answer.Answer.TheVariants.{Done}
use Rattle.run_journal.specs.declared.question.Question.TheVariants.{Fail}
use Rattle.abstract_syntax.specs.SameBy.{same_by}
use Rattle.value_operators.specs.Outcomes.{sized}
use Rattle.plans.specs.Plans.{meaning}
use Rattle.vdm_meaning.specs.Main.{asks, main_code}
use Rattle.vdm_meaning.specs.Worked.{in_spec, AreSaid}
use Rattle.vdm_meaning.specs.WorkedCalls.{base_spec, said_at_first, one_faults, two_misfit, added, said_added, misfit, said_misfit, false_pre, said_false_pre, constructor_pre, said_constructor_pre, constructor_misfit, said_constructor_misfit, static_call, said_static_call, static_through, said_static_through, static_inside, said_static_inside, constructor_given, said_constructor_given, together, said_together, two_olds, said_two_olds, late, said_late, of_class, said_of_class, exit_of_pre, said_exit_of_pre, trapped_exit, said_trapped_exit, no_result, said_no_result, nothing_given, said_nothing_given, nothing_wanted, said_nothing_wanted, false_post, said_false_post, unwritten_pre, said_unwritten_pre, unwritten, said_unwritten, unset_old, said_unset_old, no_match, said_no_match, itself, said_itself, wrong_result, said_wrong_result, static_of_object, said_static_of_object}

pub added-said : AreSaid base_spec added 60 [] (said_at_first ++ said_added)
unfolding meaning sized same_by
added-said = (refl, (refl, (refl, (refl, (refl, (refl, (refl, (refl, (refl, (refl, (refl, (refl, (refl, (refl, (refl, (refl, (refl, refl)))))))))))))))))

pub misfit-said : AreSaid base_spec misfit 60 [] (said_at_first ++ said_misfit)
unfolding meaning sized
misfit-said = (refl, (refl, (refl, (refl, (refl, (refl, (refl, (refl, (refl, refl)))))))))

pub false_pre-said : AreSaid base_spec false_pre 60 [] (said_at_first ++ said_false_pre)
unfolding meaning sized
false_pre-said = (refl, (refl, (refl, (refl, (refl, (refl, (refl, (refl, (refl, (refl, (refl, (refl, refl))))))))))))

pub constructor_pre-said : AreSaid base_spec constructor_pre 60 [] (said_at_first ++ said_constructor_pre)
unfolding meaning sized
constructor_pre-said = (refl, (refl, (refl, (refl, (refl, (refl, (refl, refl)))))))

pub constructor_misfit-said : AreSaid base_spec constructor_misfit 60 [] (said_at_first ++ said_constructor_misfit)
unfolding meaning sized
constructor_misfit-said = (refl, (refl, (refl, (refl, (refl, refl)))))

pub static_call-said : AreSaid base_spec static_call 60 [] (said_at_first ++ said_static_call)
unfolding meaning sized
static_call-said = (refl, (refl, (refl, (refl, (refl, (refl, (refl, (refl, (refl, (refl, refl))))))))))

pub static_through-said : AreSaid base_spec static_through 60 [] (said_at_first ++ said_static_through)
unfolding meaning sized
static_through-said = (refl, (refl, (refl, (refl, (refl, (refl, (refl, (refl, (refl, (refl, (refl, refl)))))))))))

pub static_inside-said : AreSaid base_spec static_inside 60 [] (said_at_first ++ said_static_inside)
unfolding meaning sized
static_inside-said = (refl, (refl, (refl, (refl, (refl, (refl, (refl, (refl, (refl, (refl, (refl, (refl, (refl, (refl, (refl, (refl, (refl, (refl, (refl, refl)))))))))))))))))))

pub constructor_given-said : AreSaid base_spec constructor_given 60 [] (said_at_first ++ said_constructor_given)
unfolding meaning sized
constructor_given-said = (refl, (refl, (refl, (refl, (refl, (refl, (refl, (refl, refl))))))))

pub together-said : AreSaid base_spec together 60 [] (said_at_first ++ said_together)
unfolding meaning sized
together-said = (refl, (refl, (refl, (refl, (refl, (refl, (refl, (refl, (refl, refl)))))))))

pub two_olds-said : AreSaid base_spec two_olds 60 [] (said_at_first ++ said_two_olds)
unfolding meaning sized same_by
two_olds-said = (refl, (refl, (refl, (refl, (refl, (refl, (refl, (refl, (refl, (refl, (refl, (refl, (refl, refl)))))))))))))

pub late-said : AreSaid base_spec late 60 [] (said_at_first ++ said_late)
unfolding meaning sized
late-said = (refl, (refl, (refl, (refl, (refl, (refl, (refl, (refl, (refl, (refl, (refl, refl)))))))))))

pub of_class-said : AreSaid base_spec of_class 60 [] (said_at_first ++ said_of_class)
unfolding meaning sized
of_class-said = (refl, (refl, (refl, (refl, (refl, (refl, (refl, (refl, refl))))))))

pub exit_of_pre-said : AreSaid base_spec exit_of_pre 60 [] (said_at_first ++ said_exit_of_pre)
unfolding meaning sized
exit_of_pre-said = (refl, (refl, (refl, (refl, (refl, (refl, (refl, (refl, (refl, (refl, refl))))))))))

pub trapped_exit-said : AreSaid base_spec trapped_exit 60 [] (said_at_first ++ said_trapped_exit)
unfolding meaning sized
trapped_exit-said = (refl, (refl, (refl, (refl, (refl, (refl, (refl, (refl, (refl, (refl, (refl, (refl, (refl, refl)))))))))))))

pub no_result-said : AreSaid base_spec no_result 60 [] (said_at_first ++ said_no_result)
unfolding meaning sized
no_result-said = (refl, (refl, (refl, (refl, (refl, (refl, (refl, refl)))))))

pub nothing_given-said : AreSaid base_spec nothing_given 60 [] (said_at_first ++ said_nothing_given)
unfolding meaning sized
nothing_given-said = (refl, (refl, (refl, (refl, (refl, (refl, (refl, (refl, (refl, refl)))))))))

pub nothing_wanted-said : AreSaid base_spec nothing_wanted 60 [] (said_at_first ++ said_nothing_wanted)
unfolding meaning sized
nothing_wanted-said = (refl, (refl, (refl, (refl, (refl, (refl, (refl, (refl, (refl, refl)))))))))

pub false_post-said : AreSaid base_spec false_post 60 [] (said_at_first ++ said_false_post)
unfolding meaning sized same_by
false_post-said = (refl, (refl, (refl, (refl, (refl, (refl, (refl, refl)))))))

pub unwritten_pre-said : AreSaid base_spec unwritten_pre 60 [] (said_at_first ++ said_unwritten_pre)
unfolding meaning sized
unwritten_pre-said = (refl, (refl, (refl, (refl, (refl, (refl, (refl, refl)))))))

pub unwritten-said : AreSaid base_spec unwritten 60 [] (said_at_first ++ said_unwritten)
unfolding meaning sized
unwritten-said = (refl, (refl, (refl, (refl, (refl, (refl, (refl, refl)))))))

pub unset_old-said : AreSaid base_spec unset_old 60 [] (said_at_first ++ said_unset_old)
unfolding meaning sized
unset_old-said = (refl, (refl, (refl, (refl, (refl, (refl, (refl, (refl, (refl, refl)))))))))

pub no_match-said : AreSaid base_spec no_match 60 [] (said_at_first ++ said_no_match)
unfolding meaning sized same_by
no_match-said = (refl, (refl, (refl, (refl, (refl, (refl, (refl, refl)))))))

pub itself-said : AreSaid base_spec itself 60 [] (said_at_first ++ said_itself)
unfolding meaning sized
itself-said = (refl, (refl, (refl, (refl, (refl, (refl, (refl, (refl, refl))))))))

pub wrong_result-said : AreSaid base_spec wrong_result 60 [] (said_at_first ++ said_wrong_result)
unfolding meaning sized
wrong_result-said = (refl, (refl, (refl, (refl, (refl, (refl, (refl, refl)))))))

pub static_of_object-said : AreSaid base_spec static_of_object 60 [] (said_at_first ++ said_static_of_object)
unfolding meaning sized
static_of_object-said = (refl, (refl, (refl, (refl, (refl, (refl, refl))))))

pub one-faults : main_code [] one_faults added 60 (Done ∷ []) ≡ asks (Fail DivideByZero Unset (in_spec 4 23))
unfolding meaning sized
one-faults = refl

pub two-misfit : main_code [] two_misfit added 60 (Done ∷ []) ≡ asks (Fail TypeFault Unset (in_spec 3 23))
unfolding meaning sized
two-misfit = refl
