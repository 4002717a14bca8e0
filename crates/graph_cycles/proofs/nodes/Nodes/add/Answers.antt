use Rattle.std.proofs.Common.{◌≡◌, ◌<◌, false, length, arith}
use Rattle.graph_cycles.specs.Graphs.{is_in}
use Rattle.graph_cycles.proofs.Held.{marked-push, apart-push}
use Rattle.graph_cycles.proofs.nodes.Nodes.add.Goals as goal

pub invariant_of-self-then-not-has : goal.invariant_of-self-then-not-has
invariant_of-self-then-not-has c =
    let s = c.args.self.now in
    let l : c.args.node < length s.flags.items = omega (arith, s.flags.ok.0) in
    let new : is_in s.nodes.items c.args.node ≡ false = cc in
    record {
      marked = marked-push s.flags.items s.nodes.items c.push.new.self.items c.args.node s.marked l c.in_ok-push.ensures.items;
      apart = apart-push s.nodes.items c.push.new.self.items c.args.node s.apart new c.in_ok-push.ensures.items;
    }
