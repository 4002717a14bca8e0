use Rattle.std.proofs.Common.{refl}
use Rattle.vdm_lexer.specs.Pieces.{begins, is_text}
use Rattle.vdm_lexer.specs.Signs.{longest}
use Rattle.vdm_lexer.specs.Written.{kind_in}
use Rattle.vdm_lexer.proofs.laws.worked_lexemes.Goals as goal

pub returns : goal.returns
unfolding begins is_text longest kind_in
returns c = record {
  empty = refl;
  fraction = refl;
  exponent = refl;
  point = refl;
  slash = refl;
  unclosed = refl;
  refused_escape = refl;
  apostrophe = refl;
  string = refl;
  quote = refl;
  quote_within = refl;
  at_most = refl;
  longest = refl;
  required = refl;
  begin = refl;
  comment = refl;
  word = refl;
  left_out = refl;
}
