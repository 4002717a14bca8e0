use Rattle.plain_judge.proofs.Results.{if_ok}
use Rattle.plain_judge.proofs.run.is_next.Goals as goal

pub returns-clause-next : goal.returns-clause-next
returns-clause-next c =
    let legal = c.in_ok-is_legal_at_object.ensures.0 c.if-not-branch.false in
    if_ok c.is_asked_for.result c.is_asked_for.ensures.asked (λ b is. (λ t. (legal, is.0 t), λ next. is.1 next.1))
