use Rattle.std.proofs.Common.{◌≡◌, map, drop}
use Rattle.std.specs.List.{list_all}
use Rattle.abstract_syntax.specs.Classes.{TypeDefTree, is_same_name}
use Rattle.expr_tree.specs.TypeDefView.{type_def_view}
use Rattle.spec_table.proofs.typing.are_of.Given as goal

abbrev pub invariant-loop-definition : goal.invariant-loop-definition
invariant-loop-definition l =
    list_all (λ (t : TypeDefTree). is_same_name t.class l.class) (map type_def_view (drop l.definition-index l.definitions))
    ≡ list_all (λ (t : TypeDefTree). is_same_name t.class l.class) (map type_def_view l.definitions)
