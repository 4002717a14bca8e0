use Rattle.std.proofs.Common.{List, ap, ◌∙◌, map}
use Rattle.expr_tree.specs.declared.parts.FieldValue.{FieldValue}
use Rattle.expr_tree.specs.View.{field_value_trees, field_value_view}
use Rattle.tree_frames.proofs.Pushes.{field_values-push}
use Rattle.tree_frames.proofs.lists.with_field_value.Goals as goal

pub returns : goal.returns
returns c = ap (λ (items : List FieldValue). field_value_trees (map field_value_view items)) c.in_ok-push.ensures.items ∙ field_values-push c.args.items.items c.args.last
