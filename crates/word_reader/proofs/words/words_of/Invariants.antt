use Rattle.std.proofs.Common.{◌≡◌, ◌++◌, length}
use Rattle.word_reader.specs.Words.{words_behind, words_from}
use Rattle.word_reader.proofs.words.words_of.Given as goal

-- the words so far, before those of the rest, are those of all
abbrev pub invariant-loop-rest : goal.invariant-loop-rest
invariant-loop-rest l = words_from l.text l.lexemes l.at ≡ l.words.items ++ words_behind l.ended l.text l.rest

abbrev pub decreases-loop-rest : goal.decreases-loop-rest
decreases-loop-rest l = length l.rest
