use Rattle.std.proofs.Common.{◌≡◌, flat_map, reverse, take}
use Rattle.ancestor_lines.specs.Parts.{lists_of, list_at}
use Rattle.ancestor_lines.proofs.gathered.line_layout.Given as goal

-- the variables of the classes passed
abbrev pub invariant-loop-passed : goal.invariant-loop-passed
invariant-loop-passed l = l.found.items ≡ flat_map (list_at (lists_of l.own)) (take l.passed (reverse l.line))
