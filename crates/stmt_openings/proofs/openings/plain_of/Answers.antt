use Rattle.std.proofs.Common.{ap, ◌∙◌}
use Rattle.grammar_tokens.specs.View.{token_view}
use Rattle.stmt_reading.specs.Statements.{stmt_begun}
use Rattle.stmt_openings.proofs.Beginnings.{begun-as}
use Rattle.stmt_openings.proofs.openings.plain_of.Goals as goal

pub returns-in-Plain : goal.returns-in-Plain
returns-in-Plain c = λ one tokens.
    ap (λ token. stmt_begun one (token_view token) tokens) c.in-Plain.is ∙ begun-as one c.in-Plain.word c.in-Plain.place tokens
