use Rattle.std.proofs.Common.{arith}
use Rattle.vdm_values.proofs.Parts.{nodes_of-item, nodes_of-pair}
use Rattle.vdm_values.specs.Tree.{rising_as}
use Rattle.vdm_values.proofs.value.+copy.Goals as goal

pub copy_pairs-copy-requires : goal.copy_pairs-copy-requires
copy_pairs-copy-requires t c = (omega (arith, nodes_of-pair _ _ _ c.loop-key-item.is c.loop-key-test.true), tt)

pub copy_pairs-copy-requires-in-loop-key : goal.copy_pairs-copy-requires-in-loop-key
copy_pairs-copy-requires-in-loop-key t c = (omega (arith, nodes_of-pair _ _ _ c.loop-key-item.is c.loop-key-test.true), tt)

pub copy_values-copy-requires : goal.copy_values-copy-requires
copy_values-copy-requires t c = (omega (arith, nodes_of-item _ _ _ c.value-item.is c.loop-value-test.true), tt)

pub Value::copy-invariant_of-result : goal.Value::copy-invariant_of-result
Value::copy-invariant_of-result t c = rising_as _ _ c.in_ok-kept.ensures c.self.invariant
