use Rattle.std.proofs.Common.{◌≡◌, ℕ, List, map, flat_map, take}
use Rattle.graph_cycles.specs.Graphs.{graph_of}
use Rattle.class_meaning.specs.Objects.{first_names}
use Rattle.ancestor_lines.specs.Parts.{lists_of, list_at}
use Rattle.ancestor_lines.proofs.gathered.all_operations.Given as goal

-- the lists so far
abbrev pub invariant-loop-line : goal.invariant-loop-line
invariant-loop-line l = lists_of l.found.items ≡ map (λ (line : List ℕ). first_names (flat_map (list_at (lists_of l.own)) line)) (graph_of (take l.line-index l.lines))
