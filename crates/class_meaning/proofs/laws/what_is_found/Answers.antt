use Rattle.class_meaning.proofs.Finding.{found_one}
use Rattle.class_meaning.proofs.laws.what_is_found.Goals as goal

pub returns : goal.returns
returns c = λ spec ask k o e. found_one spec ask k o e
