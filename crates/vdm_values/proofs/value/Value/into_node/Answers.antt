use Rattle.vdm_values.specs.Tree.{rising_as}
use Rattle.vdm_values.proofs.value.Value.into_node.Goals as goal

pub returns-in_ok-node-in-Shared-clause-rises : goal.returns-in_ok-node-in-Shared-clause-rises
returns-in_ok-node-in-Shared-clause-rises c =
    rising_as _ _ c.in_ok-node-in-Shared.ensures (rw c.in-Shared.is (rw c.in-Shared.is at c.self.invariant))
