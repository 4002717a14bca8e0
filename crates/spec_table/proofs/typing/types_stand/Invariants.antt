use Rattle.std.proofs.Common.{◌≡◌, map, drop}
use Rattle.std.specs.List.{list_all}
use Rattle.vdm_tree.specs.ClassView.{class_view}
use Rattle.member_meaning.specs.TypeRanks.{has_its_types}
use Rattle.spec_table.proofs.typing.types_stand.Given as goal

abbrev pub invariant-loop-class : goal.invariant-loop-class
invariant-loop-class l =
    list_all has_its_types (map class_view (drop l.class-index l.classes)) ≡ list_all has_its_types (map class_view l.classes)
