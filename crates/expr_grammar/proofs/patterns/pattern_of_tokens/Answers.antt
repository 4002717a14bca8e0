use Rattle.std.proofs.Common.{Err, ap, sym}
use Rattle.grammar_trees.specs.Reading.{pattern_of}
use Rattle.text_fronts.proofs.Fronts.{answer-deep}
use Rattle.expr_grammar.proofs.patterns.pattern_of_tokens.Goals as goal

pub returns-in_err-read-clause-refused : goal.returns-in_err-read-clause-refused
returns-in_err-read-clause-refused c fault e =
    answer-deep pattern_of _ c.args.names.now c.args.text.now c.args.tokens.now c.args.at _ fault (c.in_err-read.ensures.deep fault (let x = rw e at (c.from_residual.ensures.1) in ap Err (sym x)))
