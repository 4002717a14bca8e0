use Rattle.class_meaning.proofs.Agreeing.{found_one_above, found_none_above, found_several_above}
use Rattle.class_meaning.proofs.laws.inherited_definitions.Goals as goal

pub returns-clause-one : goal.returns-clause-one
returns-clause-one c = λ spec ask k o t own. found_one_above spec ask k t o own

pub returns-clause-none : goal.returns-clause-none
returns-clause-none c = λ spec ask k t own. found_none_above spec ask k t own

pub returns-clause-several : goal.returns-clause-several
returns-clause-several c = λ spec ask k t own. found_several_above spec ask k t own
