use Rattle.lexeme_laws.proofs.Agree.{one-list, one-fault, list-or-fault}
use Rattle.lexeme_laws.proofs.laws.one_answer.Goals as goal

pub returns : goal.returns
returns c = record { list = one-list; fault = one-fault; either = list-or-fault }
