use Rattle.std.proofs.Common.{refl}
use Rattle.word_reader.specs.Written.{word_in}
use Rattle.word_reader.proofs.laws.all_have_words.Goals as goal

pub returns : goal.returns
unfolding word_in
returns c = record { words = refl; signs = refl }
