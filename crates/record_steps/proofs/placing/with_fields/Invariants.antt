use Rattle.std.proofs.Common.{◌≡◌, map}
use Rattle.std.specs.Vec.Iter.{into_iter_items}
use Rattle.expr_tree.specs.TypeDefView.{field_view}
use Rattle.expr_tree.specs.View.{field_value_trees, field_value_view}
use Rattle.node_meaning.specs.Records.{field_names, with_fields_named}
use Rattle.record_steps.proofs.placing.with_fields.Given as goal

abbrev pub invariant-loop-value : goal.invariant-loop-value
invariant-loop-value l =
    (goal.iterator-loop-value).can_next l.value-iterator ×
    (goal.iterator-loop-value).is_finite l.value-iterator ×
    (with_fields_named (map field_view l.fn.fields) (field_names (field_value_trees (map field_value_view l.left))) (into_iter_items l.value-iterator) l.values.items ≡
    with_fields_named (map field_view l.fn.fields) (field_names (field_value_trees (map field_value_view l.fn.changes))) l.fn.given.items l.fn.values.items)
