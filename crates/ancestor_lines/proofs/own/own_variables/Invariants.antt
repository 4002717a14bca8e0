use Rattle.std.proofs.Common.{◌≡◌, map, take}
use Rattle.vdm_tree.specs.ClassView.{class_view}
use Rattle.ancestor_lines.specs.Parts.{own_variables, lists_of}
use Rattle.ancestor_lines.proofs.own.own_variables.Given as goal

-- the lists of the classes so far
abbrev pub invariant-loop-class : goal.invariant-loop-class
invariant-loop-class l = lists_of l.found.items ≡ map (own_variables l.is_static) (map class_view (take l.class-index l.classes))
