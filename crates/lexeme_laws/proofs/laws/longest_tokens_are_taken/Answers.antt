use Rattle.vdm_lexer.specs.declared.lexeme.LexKind.TheVariants.{Identifier, Whole, Reserved, Sign}
use Rattle.lexeme_laws.proofs.Longest.{token-is}
use Rattle.lexeme_laws.proofs.laws.longest_tokens_are_taken.Goals as goal

pub returns : goal.returns
returns c = record {
  identifiers = λ text more e. (token-is text Identifier more e).word;
  reserved = λ text more e. (token-is text Reserved more e).word;
  numerals = λ text more e. (token-is text Whole more e).numeral;
  signs = λ text more e. (token-is text Sign more e).sign;
}
