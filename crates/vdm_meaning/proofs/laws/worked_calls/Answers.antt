use Rattle.vdm_meaning.proofs.WorkedCalls.{added-said, misfit-said, false_pre-said, constructor_pre-said, constructor_misfit-said, static_call-said, static_through-said, static_inside-said, constructor_given-said, together-said, two_olds-said, late-said, of_class-said, exit_of_pre-said, trapped_exit-said, no_result-said, nothing_given-said, nothing_wanted-said, false_post-said, unwritten_pre-said, unwritten-said, unset_old-said, no_match-said, itself-said, wrong_result-said, static_of_object-said, one-faults, two-misfit}
use Rattle.vdm_meaning.proofs.laws.worked_calls.Goals as goal

pub returns : goal.returns
returns c = record {
  added = added-said;
  misfit = misfit-said;
  false_pre = false_pre-said;
  constructor_pre = constructor_pre-said;
  constructor_misfit = constructor_misfit-said;
  static_call = static_call-said;
  static_through = static_through-said;
  static_inside = static_inside-said;
  constructor_given = constructor_given-said;
  together = together-said;
  two_olds = two_olds-said;
  late = late-said;
  of_class = of_class-said;
  exit_of_pre = exit_of_pre-said;
  trapped_exit = trapped_exit-said;
  no_result = no_result-said;
  nothing_given = nothing_given-said;
  nothing_wanted = nothing_wanted-said;
  false_post = false_post-said;
  unwritten_pre = unwritten_pre-said;
  unwritten = unwritten-said;
  unset_old = unset_old-said;
  no_match = no_match-said;
  itself = itself-said;
  wrong_result = wrong_result-said;
  static_of_object = static_of_object-said;
  one_faults = one-faults;
  two_misfit = two-misfit;
}
