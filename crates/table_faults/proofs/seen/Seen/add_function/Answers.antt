use Rattle.std.proofs.Common.{nat_eq}
use Rattle.std.specs.HashSet.{contains}
use Rattle.table_faults.specs.Known.{same_pair}
use Rattle.table_faults.proofs.Noting.{added_function}
use Rattle.table_faults.proofs.seen.Seen.add_function.Goals as goal

pub returns : goal.returns
returns c =
    added_function c.args.name (contains nat_eq c.args.self.now.names) (contains nat_eq c.args.self.now.no_functions)
    (contains nat_eq c.args.self.now.no_operations) (contains same_pair c.args.self.now.functions) (contains same_pair c.args.self.now.operations)
    c.args.count _ _ _ c.in_ok-insert.ensures.updates.0 c.in_ok-insert-2.ensures.updates.0 c.in_ok-insert-3.ensures.updates.0
