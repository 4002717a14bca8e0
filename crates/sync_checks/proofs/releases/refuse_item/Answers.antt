use Rattle.std.proofs.Common.{ap, sym}
use Rattle.shared_names.specs.Maps.{held}
use Rattle.part_checks.specs.Below.check_names.specs.Noting.{Note}
use Rattle.sync_checks.proofs.releases.refuse_item.Goals as goal

pub returns-in-Operation : goal.returns-in-Operation
returns-in-Operation c = λ k.
    rw c.in-Operation.is (sym (ap (λ (n : Note). n.first) (c.operation_faults-spoiled.ensures (held c.args.here.locals.now))))
