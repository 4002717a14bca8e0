use Rattle.std.proofs.Common.{Err, ap, sym, ◌∙◌}
use Rattle.stmt_grammar.proofs.Deep.{too-deep}
use Rattle.stmt_grammar.proofs.stmts.stmt_of_tokens.Goals as goal

pub returns-in_err-read-clause-refused : goal.returns-in_err-read-clause-refused
returns-in_err-read-clause-refused c fault e =
    too-deep c.args.names.now c.args.text.now c.args.tokens.now c.args.at c.deref.result.now c.in_ok-front.front fault
    (c.deref.ensures.value ∙ c.in_ok-words.ensures)
    c.in_ok-front.ensures
    (c.in_err-read.ensures.deep fault (let x = rw e at (c.from_residual-in_err-read.ensures.1) in ap Err (sym x)))
