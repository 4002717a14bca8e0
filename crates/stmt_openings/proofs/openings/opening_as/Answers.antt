use Rattle.std.proofs.Common.{sym, subst}
use Rattle.stmt_openings.specs.Beginnings.{begun_as}
use Rattle.stmt_openings.specs.Openings.{Opens}
use Rattle.stmt_openings.proofs.openings.opening_as.Goals as goal

pub returns-in-Simple : goal.returns-in-Simple
returns-in-Simple c = λ one.
    subst (λ begins. Opens c.word_first.result one (begun_as one begins c.args.word c.args.place c.args.source.now) c.word_first.new.source)
    (sym c.in-Simple.is) (c.word_first.ensures one)
