use Rattle.std.proofs.Common.{ap, ◌∙◌}
use Rattle.vdm_values.specs.Tree.{tree_of}
use Rattle.name_steps.specs.Settings.{set}
use Rattle.name_steps.proofs.Plans.{if_ok, selected_object_of_class}
use Rattle.name_steps.proofs.selecting.member_of_class.Goals as goal

pub returns-in-Object : goal.returns-in-Object
returns-in-Object c = if_ok c.variable_of.result c.variable_of.ensures (λ s plan asker locals.
    plan asker locals ∙
    selected_object_of_class (set c.args.table.now asker) c.args.place locals c.args.class c.args.name _ _ _ c.args.value c.class_for-class.ensures
    (c.node.ensures.tree ∙ ap tree_of c.in-Object.is))
