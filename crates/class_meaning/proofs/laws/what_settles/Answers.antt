use Rattle.class_meaning.proofs.Ranked.{ranked}
use Rattle.class_meaning.proofs.Settled.{classes_settle, types_settle}
use Rattle.class_meaning.proofs.laws.what_settles.Goals as goal

pub returns-clause-classes : goal.returns-clause-classes
returns-clause-classes c = λ spec k fine. classes_settle spec fine k

pub returns-clause-types : goal.returns-clause-types
returns-clause-types c = λ spec i fine l. types_settle spec fine i l

pub returns-clause-ranked : goal.returns-clause-ranked
returns-clause-ranked c = λ spec fine own_types. ranked spec fine own_types
