-- A search finds none.
use Rattle.std.proofs.Common.{[], ◌∷◌, codes}
use Rattle.report_texts.proofs.Searches.{command_is}
use Rattle.report_texts.proofs.laws.worked_usage.Goals as goal

pub returns-clause-none : goal.returns-clause-none
returns-clause-none c = command_is []

pub returns-clause-no_text : goal.returns-clause-no_text
returns-clause-no_text c = command_is (codes "run" ∷ [])

pub returns-clause-check_of_a_text : goal.returns-clause-check_of_a_text
returns-clause-check_of_a_text c = command_is (codes "check" ∷ codes "1" ∷ [])

pub returns-clause-check_with_log : goal.returns-clause-check_with_log
returns-clause-check_with_log c = command_is (codes "check" ∷ codes "--log" ∷ [])

pub returns-clause-check_with_steps : goal.returns-clause-check_with_steps
returns-clause-check_with_steps c = command_is (codes "check" ∷ codes "--steps" ∷ codes "9" ∷ [])

pub returns-clause-other_letters : goal.returns-clause-other_letters
returns-clause-other_letters c = command_is (codes "Check" ∷ [])

pub returns-clause-twice_logged : goal.returns-clause-twice_logged
returns-clause-twice_logged c = command_is (codes "run" ∷ codes "1" ∷ codes "--log" ∷ codes "--log" ∷ [])

pub returns-clause-twice_steps : goal.returns-clause-twice_steps
returns-clause-twice_steps c = command_is (codes "run" ∷ codes "1" ∷ codes "--steps" ∷ codes "9" ∷ codes "--steps=9" ∷ [])

pub returns-clause-no_value : goal.returns-clause-no_value
returns-clause-no_value c = command_is (codes "run" ∷ codes "1" ∷ codes "--steps" ∷ [])

pub returns-clause-empty_value : goal.returns-clause-empty_value
returns-clause-empty_value c = command_is (codes "run" ∷ codes "1" ∷ codes "--steps=" ∷ [])

pub returns-clause-log_as_value : goal.returns-clause-log_as_value
returns-clause-log_as_value c = command_is (codes "run" ∷ codes "1" ∷ codes "--steps" ∷ codes "--log" ∷ [])

pub returns-clause-zero : goal.returns-clause-zero
returns-clause-zero c = command_is (codes "run" ∷ codes "1" ∷ codes "--steps" ∷ codes "0" ∷ [])

pub returns-clause-past_most : goal.returns-clause-past_most
returns-clause-past_most c = command_is (codes "run" ∷ codes "1" ∷ codes "--steps" ∷ codes "100000001" ∷ [])

pub returns-clause-eleven_digits : goal.returns-clause-eleven_digits
returns-clause-eleven_digits c = command_is (codes "run" ∷ codes "1" ∷ codes "--steps" ∷ codes "00000000009" ∷ [])

pub returns-clause-sign : goal.returns-clause-sign
returns-clause-sign c = command_is (codes "run" ∷ codes "1" ∷ codes "--steps" ∷ codes "+9" ∷ [])

pub returns-clause-letter : goal.returns-clause-letter
returns-clause-letter c = command_is (codes "run" ∷ codes "1" ∷ codes "--steps" ∷ codes "9a" ∷ [])

pub returns-clause-cut_short : goal.returns-clause-cut_short
returns-clause-cut_short c = command_is (codes "run" ∷ codes "1" ∷ codes "--step" ∷ codes "9" ∷ [])

pub returns-clause-two_dashes : goal.returns-clause-two_dashes
returns-clause-two_dashes c = command_is (codes "run" ∷ codes "1" ∷ codes "--" ∷ [])
