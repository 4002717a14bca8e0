use Rattle.std.proofs.Common.{nat_eq, ap}
use Rattle.std.specs.HashSet.{contains}
use Rattle.std.specs.List.{list_any}
use Rattle.table_faults.specs.Known.{same_pair}
use Rattle.table_faults.proofs.Noting.{nothing_known}
use Rattle.table_faults.proofs.seen.Seen.new.Goals as goal

pub returns : goal.returns
returns c =
    nothing_known (contains nat_eq c.new.result) (contains nat_eq c.new-2.result) (contains nat_eq c.new-3.result)
    (contains same_pair c.new-4.result) (contains same_pair c.new-5.result)
    (λ n. ap (list_any (nat_eq n)) c.new.ensures.empty) (λ n. ap (list_any (nat_eq n)) c.new-2.ensures.empty)
    (λ n. ap (list_any (nat_eq n)) c.new-3.ensures.empty) (λ q. ap (list_any (same_pair q)) c.new-4.ensures.empty)
    (λ q. ap (list_any (same_pair q)) c.new-5.ensures.empty)
