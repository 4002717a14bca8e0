use Rattle.token_reader.proofs.Readable.{lexemes-readable, lexemes-few}
use Rattle.token_reader.proofs.laws.lexemes_are_readable.Goals as goal

pub returns : goal.returns
returns c = record { readable = lexemes-readable; few = lexemes-few }
