use Rattle.std.proofs.Common.{◌≡◌, map, take}
use Rattle.vdm_tree.specs.ClassView.{class_view}
use Rattle.ancestor_lines.specs.Parts.{name_at}
use Rattle.ancestor_lines.proofs.gathered.line_names.Given as goal

-- the names so far
abbrev pub invariant-loop-k : goal.invariant-loop-k
invariant-loop-k l = l.names.items ≡ map (name_at (map class_view l.classes)) (take l.k-index l.line)
