use Rattle.std.proofs.Common.{◌≡◌, ℕ, List, map, take}
use Rattle.graph_cycles.specs.Graphs.{graph_of}
use Rattle.vdm_tree.specs.ClassView.{class_view}
use Rattle.ancestor_lines.specs.Parts.{lists_of, name_at}
use Rattle.ancestor_lines.proofs.gathered.all_names.Given as goal

-- the lists so far
abbrev pub invariant-loop-line : goal.invariant-loop-line
invariant-loop-line l = lists_of l.found.items ≡ map (λ (line : List ℕ). map (name_at (map class_view l.classes)) line) (graph_of (take l.line-index l.lines))
