use Rattle.std.proofs.Common.{◌≡◌, replicate, false, rules}
use Rattle.graph_cycles.proofs.Held.{marked-none, apart-none}
use Rattle.graph_cycles.proofs.nodes.Nodes.none.Goals as goal

pub invariant_of-result : goal.invariant_of-result
invariant_of-result c =
    let is : c.in_ok-flags.flags.items ≡ replicate c.args.count false = search rules in
    record {
      marked = marked-none c.in_ok-flags.flags.items c.new.result.items c.args.count is c.new.ensures.items;
      apart = apart-none c.new.result.items c.new.ensures.items;
    }
