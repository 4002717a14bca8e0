use Rattle.std.proofs.Common.{◌∷◌, if◌then◌else◌, sym, subst, ◌∙◌}
use Rattle.grammar_words.specs.Tokens.{plain}
use Rattle.stmt_reading.specs.Statements.{block_in, simple_in}
use Rattle.stmt_openings.specs.Openings.{Opens}
use Rattle.stmt_openings.proofs.openings.bracket_opening.Goals as goal

pub returns-then-begins_call : goal.returns-then-begins_call
returns-then-begins_call c = λ one.
    subst (λ calls. Opens c.word_first.result one
    (if calls then simple_in (plain c.args.word c.args.place ∷ c.args.source.now) else block_in one c.args.place c.args.source.now) c.word_first.new.source)
    (sym (sym c.begins_call.ensures ∙ c.if-begins_call.true)) (c.word_first.ensures one)
