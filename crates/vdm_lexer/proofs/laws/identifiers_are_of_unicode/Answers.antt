use Rattle.vdm_lexer.proofs.Unicode.{letter-unicode, of_word-unicode}
use Rattle.vdm_lexer.proofs.laws.identifiers_are_of_unicode.Goals as goal

pub returns : goal.returns
returns c = record { first = letter-unicode; others = of_word-unicode }
