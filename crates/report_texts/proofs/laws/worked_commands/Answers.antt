-- A search finds them.
use Rattle.std.proofs.Common.{[], ◌∷◌, codes}
use Rattle.report_texts.proofs.Searches.{command_is}
use Rattle.report_texts.proofs.laws.worked_commands.Goals as goal

pub returns-clause-checked : goal.returns-clause-checked
returns-clause-checked c = command_is (codes "check" ∷ [])

pub returns-clause-run_ : goal.returns-clause-run_
returns-clause-run_ c = command_is (codes "run" ∷ codes "1 + 1" ∷ [])

pub returns-clause-logged : goal.returns-clause-logged
returns-clause-logged c = command_is (codes "run" ∷ codes "1" ∷ codes "--log" ∷ [])

pub returns-clause-log_as_text : goal.returns-clause-log_as_text
returns-clause-log_as_text c = command_is (codes "run" ∷ codes "--log" ∷ [])

pub returns-clause-steps_as_text : goal.returns-clause-steps_as_text
returns-clause-steps_as_text c = command_is (codes "run" ∷ codes "--steps" ∷ [])

pub returns-clause-apart : goal.returns-clause-apart
returns-clause-apart c = command_is (codes "run" ∷ codes "1" ∷ codes "--steps" ∷ codes "9" ∷ [])

pub returns-clause-joined : goal.returns-clause-joined
returns-clause-joined c = command_is (codes "run" ∷ codes "1" ∷ codes "--steps=9" ∷ [])

pub returns-clause-zeros : goal.returns-clause-zeros
returns-clause-zeros c = command_is (codes "run" ∷ codes "1" ∷ codes "--steps=0000000009" ∷ [])

pub returns-clause-most : goal.returns-clause-most
returns-clause-most c = command_is (codes "run" ∷ codes "1" ∷ codes "--steps" ∷ codes "100000000" ∷ [])

pub returns-clause-steps_first : goal.returns-clause-steps_first
returns-clause-steps_first c = command_is (codes "run" ∷ codes "1" ∷ codes "--steps" ∷ codes "9" ∷ codes "--log" ∷ [])

pub returns-clause-log_first : goal.returns-clause-log_first
returns-clause-log_first c = command_is (codes "run" ∷ codes "1" ∷ codes "--log" ∷ codes "--steps=9" ∷ [])
