use Rattle.std.proofs.Common.{◌≡◌, ◌++◌, map, drop}
use Rattle.abstract_syntax.specs.Classes.{ClassTree}
use Rattle.vdm_tree.specs.ClassView.{class_view}
use Rattle.spec_table.proofs.making.names_of.Given as goal

abbrev pub invariant-loop-class : goal.invariant-loop-class
invariant-loop-class l =
    l.names.items ++ map (λ (class : ClassTree). class.name) (map class_view (drop l.class-index l.classes))
    ≡ map (λ (class : ClassTree). class.name) (map class_view l.classes)
