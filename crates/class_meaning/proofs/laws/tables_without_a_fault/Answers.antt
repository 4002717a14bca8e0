use Rattle.class_meaning.proofs.Refusals.{names_differ, superclasses_exist, members_differ, class_on_no_circle, type_on_no_circle}
use Rattle.class_meaning.proofs.laws.tables_without_a_fault.Goals as goal

pub returns-clause-names : goal.returns-clause-names
returns-clause-names c = λ spec fine. names_differ spec fine

pub returns-clause-superclasses : goal.returns-clause-superclasses
returns-clause-superclasses c = λ spec k class fine e. superclasses_exist spec fine k class e

pub returns-clause-members : goal.returns-clause-members
returns-clause-members c = λ spec k class fine e. members_differ spec fine k class e

pub returns-clause-classes : goal.returns-clause-classes
returns-clause-classes c = λ spec k fine. class_on_no_circle spec fine k

pub returns-clause-types : goal.returns-clause-types
returns-clause-types c = λ spec i fine. type_on_no_circle spec fine i
