use Rattle.std.proofs.Common.{◌≡◌, drop, map}
use Rattle.std.specs.List.{find}
use Rattle.abstract_syntax.specs.Classes.{FieldTree, is_same_name}
use Rattle.expr_tree.specs.TypeDefView.{field_view}
use Rattle.check_fields.proofs.fields.field_among.Given as goal

abbrev pub invariant-loop-found : goal.invariant-loop-found
invariant-loop-found l =
    find (λ (f : FieldTree). is_same_name l.field f.name) (map field_view (drop l.found-index l.fields))
    ≡ find (λ (f : FieldTree). is_same_name l.field f.name) (map field_view l.fields)
