-- Words that are a whole type, pattern or expression, by what may come next.
use Rattle.std.specs.Prelude.{◌≡◌, true, List, Some}
use Rattle.grammar_words.specs.declared.word.Word.{Word}
use Rattle.grammar_fronts.specs.declared.kind.Kind.{Kind}
use Rattle.grammar_fronts.specs.declared.wanted.Wanted.{Wanted}
use Rattle.grammar_fronts.specs.Fronts.{is_whole}
use Rattle.grammar_fronts.specs.Viable.{taken, start}

-- the words are taken one by one, and nothing more has to come
pub record IsWholeFront (kind : Kind) (words : List Word) : Type 0 where
  pub wanted : List Wanted
  pub viable : taken words (start kind) ≡ Some wanted
  pub whole : is_whole wanted ≡ true
