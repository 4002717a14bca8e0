use Rattle.std.proofs.Common.{◌≡◌, ℕ, take, map, length}
use Rattle.abstract_syntax.specs.Classes.{SpecTree}
use Rattle.graph_cycles.specs.Graphs.{graph_of, is_in}
use Rattle.vdm_tree.specs.ClassView.{class_view}
use Rattle.found_members.specs.Rows.{Builds, Rows, is_placed}
use Rattle.found_members.proofs.heirs.rows_of.Given as goal

-- the classes so far are placed, and no others
abbrev pub invariant-loop-node : goal.invariant-loop-node
invariant-loop-node l = (length l.rows.items ≡ length l.graph)
    × ((spec : SpecTree) → Builds l.own (map class_view l.classes) (graph_of l.graph) spec
    → Rows l.rows.items spec × ((a : ℕ) → is_placed l.rows.items a ≡ is_in (take l.node-index l.nodes) a))
