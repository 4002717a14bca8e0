use Rattle.std.proofs.Common.{◌≡◌, take}
use Rattle.graph_cycles.specs.Growing.{with_nodes}
use Rattle.ancestor_lines.specs.Parts.{Knows, numbers}
use Rattle.ancestor_lines.proofs.name_set.NameSet.add_all.Given as goal

-- the names so far were added
abbrev pub invariant-loop-name : goal.invariant-loop-name
invariant-loop-name l =
    (numbers l.self.names.items ≡ with_nodes (numbers l.initial.self.names.items) (numbers (take l.name-index l.names)))
    × Knows l.self.seen.keys l.self.names.items
