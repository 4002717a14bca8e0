-- The word that a lexeme makes, as it is read: from its own word and those of the two lexemes behind it.
use Rattle.std.specs.Prelude.{Bool, ◌&&◌, if◌then◌else◌}
use Rattle.vdm_kinds.specs.declared.sign.Sign.TheVariants.{InSet, NotInSet}
use Rattle.grammar_words.specs.declared.word.Word.{Word}
use Rattle.grammar_words.specs.declared.word.Word.TheVariants.{Operator}
use Rattle.word_reader.specs.Words.{is_in, is_set, is_not}

abbrev pub front_word : Bool → Word → Word → Word → Word
front_word ended word next after =
    if is_in word && is_set next then Operator InSet
    else if ended && is_not word && is_in next && is_set after then Operator NotInSet
    else word
