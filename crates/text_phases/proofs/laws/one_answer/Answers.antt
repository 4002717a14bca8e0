use Rattle.text_phases.proofs.Decided.{answer_decided, specification_first}
use Rattle.text_phases.proofs.laws.one_answer.Goals as goal

pub returns-clause-decided : goal.returns-clause-decided
returns-clause-decided c = answer_decided

pub returns-clause-first : goal.returns-clause-first
returns-clause-first c = specification_first
