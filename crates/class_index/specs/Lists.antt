-- What a list of classes stands for.
use Rattle.std.specs.Prelude.{map, drop}
use Rattle.abstract_syntax.specs.Classes.{SpecTree}
use Rattle.class_index.specs.declared.class_list.ClassList.{ClassList}
use Rattle.vdm_tree.specs.ClassView.{class_view}

-- the specification whose classes stand in a list behind `IO`
abbrev pub spec_of : ClassList → SpecTree
spec_of list = record { classes = drop 1 (map class_view list.classes.items) }
