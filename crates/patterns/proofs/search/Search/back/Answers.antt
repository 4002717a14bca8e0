use Rattle.std.proofs.Common.{sym, ◌∙◌, refl}
use Rattle.patterns.proofs.Steps.{back_to, back_nowhere}
use Rattle.patterns.proofs.search.Search.back.Goals as goal

pub returns-in_default : goal.returns-in_default
returns-in_default c = λ types.
    back_nowhere types _ _ c.in_default.ensures.0 refl (c.in_default.ensures.1 ∙ sym c.in_default.ensures.0) c.requires

pub returns : goal.returns
returns c = λ types. back_to types _ _ _ c.in-Some.ensures c.cut.ensures refl refl c.requires
