use Rattle.class_meaning.proofs.Finding.{found_none, found_unsettled}
use Rattle.class_meaning.proofs.laws.nothing_is_found.Goals as goal

pub returns-clause-none : goal.returns-clause-none
returns-clause-none c = λ spec ask k each. found_none spec ask k each

pub returns-clause-circle : goal.returns-clause-circle
returns-clause-circle c = λ spec ask k f. found_unsettled spec ask k f
