use Rattle.std.proofs.Common.{◌≡◌, Some, IfSome, subst}
use Rattle.vdm_legal.specs.Finishes.{finish_of}
use Rattle.plain_state.specs.Finishes.{finishes}
use Rattle.vdm_cli.proofs.run.end_after.Goals as goal

pub returns-in-Some-clause-ends : goal.returns-in-Some-clause-ends
returns-in-Some-clause-ends c = λ journal finished. c.end_of.ensures.ends journal (subst (λ o. IfSome o (λ f. finish_of journal ≡ Some (finishes f))) c.in-Some.is finished)
