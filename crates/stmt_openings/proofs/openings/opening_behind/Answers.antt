use Rattle.std.proofs.Common.{ap, sym, subst, ◌∙◌}
use Rattle.grammar_tokens.specs.View.{token_view}
use Rattle.stmt_openings.specs.Beginnings.{begun_with}
use Rattle.stmt_openings.specs.Openings.{Opens}
use Rattle.stmt_openings.proofs.openings.opening_behind.Goals as goal

pub returns-in-None : goal.returns-in-None
returns-in-None c = λ one.
    subst (λ read. Opens c.token_first.result one read c.token_first.new.source)
    (sym (c.plain_of.ensures one c.args.source.now ∙ ap (λ found. begun_with one (token_view c.args.token) found c.args.source.now) c.in-None.is))
    (c.token_first.ensures one)
