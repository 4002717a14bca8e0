use Rattle.std.proofs.Common.{◌≡◌, take, map, vec_len}
use Rattle.vdm_tree.specs.ClassView.{class_view}
use Rattle.found_members.specs.Rows.{HaveIndexes}
use Rattle.found_members.proofs.found_names.indexes.Given as goal

-- the classes so far have their indexes
abbrev pub invariant-loop-class : goal.invariant-loop-class
invariant-loop-class l = (vec_len l.own ≡ l.class-index) × HaveIndexes l.own.items (map class_view (take l.class-index l.classes))
