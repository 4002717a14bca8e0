use Rattle.std.proofs.Common.{◌≤◌, nat_lt, ap, sym, subst, ◌∙◌}
use Rattle.stmt_fronts.specs.declared.open_node.OpenNode.{OpenNode}
use Rattle.stmt_fronts.specs.Depth as depths
use Rattle.stmt_front_reader.proofs.Ending.{too_deep_end}
use Rattle.stmt_front_reader.proofs.open_nodes.OpenNodes.end.Goals as goal

pub returns-then-now-ge-NESTING_LIMIT : goal.returns-then-now-ge-NESTING_LIMIT
returns-then-now-ge-NESTING_LIMIT c =
    let wanted = c.args.wanted in
    let pull = c.args.pull in
    let depth = c.loop-node.depth in
    let part = c.with_part-now.ensures in
    ap (λ (n : depths.Nest). nat_lt depths.nesting_limit n.read) (sym c.loop-node.invariant.ends)
    ∙ ap (λ nodes. nat_lt depths.nesting_limit (depths.end_over wanted pull depth nodes).read) c.in-Some.ensures
    ∙ too_deep_end wanted pull depth c.in-Some.node c.pop.new.self
    (ap (depths.is_over wanted pull) (sym part) ∙ sym c.is_over.ensures ∙ c.if-not-is_over.false)
    (subst (λ (n : OpenNode). 200 ≤ n.deepest) part c.if-now-ge-NESTING_LIMIT.true)
