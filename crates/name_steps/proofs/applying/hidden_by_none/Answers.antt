use Rattle.std.proofs.Common.{ap, ◌∙◌}
use Rattle.expr_tree.specs.View.{boxed_view, expr_trees, views_of}
use Rattle.spec_table.specs.Tables.{table_spec}
use Rattle.node_meaning.specs.Names.{own_named}
use Rattle.eval_data.specs.Parts.{here_of, wanted_of}
use Rattle.name_steps.specs.Settings.{set}
use Rattle.name_steps.proofs.Plans.{if_ok, named_by_count}
use Rattle.name_steps.proofs.applying.hidden_by_none.Goals as goal

pub returns : goal.returns
returns c = if_ok c.applied_or_called.result c.applied_or_called.ensures (λ s plan asker locals.
    plan asker locals ∙
    named_by_count (set c.args.table.now asker) (here_of c.args.here) (boxed_view c.args.head.now) (expr_trees (views_of c.args.arguments.now.items))
    c.args.place (wanted_of c.args.wanted) locals c.args.name _ _ _ c.in_ok-count.ensures c.function_in-function.ensures
    (c.own_named-op.ensures ∙ ap (λ own. own_named (table_spec c.args.table.now) c.args.here.scope own c.args.name c.in_ok-count.count) c.object_class.ensures))
