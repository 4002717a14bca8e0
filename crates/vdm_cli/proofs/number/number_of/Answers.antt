-- A word of ten bytes at most that begins with no `+` is what it is read as.
use Rattle.std.proofs.Common.{arith}
use Rattle.std.proofs.lemmas.Str.Pattern.{starts_char}
use Rattle.vdm_cli.proofs.Options.{number_is}
use Rattle.vdm_cli.proofs.number.number_of.Goals as goal

pub returns : goal.returns
returns c =
    let plus = starts_char 43 c.args.word.now c.starts_with.result c.starts_with.ensures.cases (omega arith) (omega arith) in
    number_is c.args.word.now c.parse.result c.ok.result c.starts_with.result c.ok.ensures.value c.parse.ensures.value.0 plus c.if-starts_with.false
    (omega (arith, c.if-word-gt-MOST_DIGITS.false))
