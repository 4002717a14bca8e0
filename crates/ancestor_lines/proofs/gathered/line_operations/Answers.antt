use Rattle.std.proofs.Common.{ap, ◌∙◌, [], List, ℕ, flat_map, arith}
use Rattle.std.proofs.lemmas.List.{take_all}
use Rattle.graph_cycles.specs.Growing.{with_nodes}
use Rattle.ancestor_lines.specs.Parts.{lists_of, list_at, numbers}
use Rattle.ancestor_lines.proofs.Once.{once_is}
use Rattle.ancestor_lines.proofs.gathered.line_operations.Goals as goal

pub returns : goal.returns
returns c =
    let line = c.args.line.now in
    once_is c.loop-k.found.names.items (flat_map (list_at (lists_of c.args.own.now)) line)
    (c.loop-k.invariant.0
    ∙ ap (λ (ns : List ℕ). with_nodes [] (numbers (flat_map (list_at (lists_of c.args.own.now)) ns))) (take_all c.loop-k.k-index line (omega (arith, c.loop-k-test.false))))
