use Rattle.lexeme_laws.proofs.Agree.{read-relation, relation-read, read-fault-relation, fault-relation-read}
use Rattle.lexeme_laws.proofs.laws.reading_is_the_relation.Goals as goal

pub returns : goal.returns
returns c = record {
  lexemes = λ part text found. (read-relation part text found, relation-read part text found);
  fault = λ part text fault. (read-fault-relation part text fault, fault-relation-read part text fault);
}
