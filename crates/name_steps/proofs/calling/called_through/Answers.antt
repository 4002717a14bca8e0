use Rattle.std.proofs.Common.{ap, ◌∙◌}
use Rattle.vdm_values.specs.Tree.{tree_of}
use Rattle.expr_tree.specs.View.{expr_trees, views_of}
use Rattle.eval_data.specs.Parts.{here_of, wanted_of}
use Rattle.name_steps.specs.Settings.{set}
use Rattle.name_steps.proofs.Plans.{if_ok, called_field, called_object}
use Rattle.name_steps.proofs.calling.called_through.Goals as goal

pub returns-in-Object : goal.returns-in-Object
returns-in-Object c = if_ok c.member_applied.result c.member_applied.ensures (λ g plan asker locals.
    plan asker locals ∙
    called_object (set c.args.table.now asker) (here_of c.args.here) (expr_trees (views_of c.args.arguments.now.items)) c.args.place (wanted_of c.args.wanted) locals
    c.args.name c.args.dot _ _ _ _ _ c.args.value c.in_ok-count-in-Object.ensures c.operation_reached-op.ensures c.variable_in-variable.ensures
    (c.node.ensures.tree ∙ ap tree_of c.in-Object.is))

pub returns-in-Rec : goal.returns-in-Rec
returns-in-Rec c = if_ok c.field_applied.result c.field_applied.ensures (λ g plan asker locals.
    plan _ c.field_value-found.ensures (set c.args.table.now asker) locals ∙
    called_field (set c.args.table.now asker) (here_of c.args.here) (expr_trees (views_of c.args.arguments.now.items)) c.args.place (wanted_of c.args.wanted) locals
    c.args.name c.args.dot _ _ _ _ c.args.value c.as_slice.ensures.value (c.node.ensures.tree ∙ ap tree_of c.in-Rec.is))
