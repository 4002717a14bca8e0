use Rattle.std.proofs.Common.{◌++◌, ap, ◌∙◌, subst}
use Rattle.value_operators.specs.Outcomes.{Gives}
use Rattle.map_ops.proofs.Keys.{overridden_is}
use Rattle.map_ops.proofs.joining.overridden.Goals as goal

pub returns : goal.returns
returns c =
    subst (Gives c.map_result.result)
    (overridden_is c.args.a.now c.args.b.now c.requires.0 c.requires.1 _ (c.in_ok-push_pairs.ensures ∙ ap (λ ps. ps ++ c.args.b.now) c.in_ok-pairs.ensures))
    c.map_result.ensures
