use Rattle.std.proofs.Common.{◌++◌, ap, ◌∙◌, subst}
use Rattle.value_operators.specs.Outcomes.{Gives, sized}
use Rattle.set_ops.proofs.Joined.{union_is}
use Rattle.set_ops.proofs.joining.union.Goals as goal

pub returns : goal.returns
returns c =
    subst (λ v. Gives c.set_result.result (sized v))
    (union_is c.args.a.now c.args.b.now _ (c.in_ok-push_copies.ensures ∙ ap (λ vs. vs ++ c.args.a.now) c.in_ok-members.ensures))
    c.set_result.ensures
