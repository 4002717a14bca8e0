use Rattle.vdm_lexer.proofs.Rising.{lexemes-rise, bytes-encoded}
use Rattle.vdm_lexer.proofs.laws.spans_rise.Goals as goal

pub returns : goal.returns
returns c = record { rise = lexemes-rise; bytes = bytes-encoded }
