use Rattle.std.proofs.Common.{sym, subst}
use Rattle.token_reader.specs.Read.{AreReadable}
use Rattle.token_reader.proofs.Reading.{readable-behind}
use Rattle.text_fronts.proofs.front.read_reach.Goals as goal

pub tokens_of-requires-clause-readable : goal.tokens_of-requires-clause-readable
tokens_of-requires-clause-readable c = subst (AreReadable c.args.text.now) (sym c.lexemes_behind.ensures) (readable-behind c.args.text.now c.args.lexemes.now c.args.at c.requires.readable)
