use Rattle.std.proofs.Common.{sym, ◌∙◌}
use Rattle.value_operators.specs.Members.{has}
use Rattle.value_operators.specs.Sets.{members_of}
use Rattle.value_results.proofs.Operands.{mapped_not_all}
use Rattle.set_ops.proofs.distributed.all_have.Goals as goal

pub returns-then-not-set_has : goal.returns-then-not-set_has
returns-then-not-set_has c =
    sym (mapped_not_all (λ ws. has ws c.args.value.now) members_of c.args.sets.now c.loop-set.set-index _ c.loop-set-test.true c.set-item.is
    (sym c.set_has.ensures ∙ c.if-not-set_has.true))
