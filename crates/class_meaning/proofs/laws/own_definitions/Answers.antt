use Rattle.class_meaning.proofs.Agreeing.{found_own}
use Rattle.class_meaning.proofs.laws.own_definitions.Goals as goal

pub returns : goal.returns
returns c = λ spec ask k t own. found_own spec ask k t own
