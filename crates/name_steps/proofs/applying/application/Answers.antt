use Rattle.std.proofs.Common.{ap, ◌∙◌}
use Rattle.expr_tree.specs.View.{boxed_view, expr_trees, views_of}
use Rattle.eval_data.specs.Parts.{here_of, wanted_of}
use Rattle.name_steps.specs.Applied.{applied_plan}
use Rattle.name_steps.specs.Settings.{set}
use Rattle.name_steps.proofs.Plans.{if_ok, by_applied}
use Rattle.name_steps.proofs.applying.application.Goals as goal

pub returns : goal.returns
returns c = if_ok c.application_of.result c.application_of.ensures (λ s plan asker.
    plan asker ∙
    ap (λ a. applied_plan (set c.args.table.now asker) (here_of c.args.here) (boxed_view c.args.head.now) a (expr_trees (views_of c.args.arguments.now.items)) c.args.place
    (wanted_of c.args.wanted) c.args.locals.now) c.applied_of-applied.ensures ∙
    by_applied (set c.args.table.now asker) (here_of c.args.here) c.args.place c.args.locals.now (boxed_view c.args.head.now) (expr_trees (views_of c.args.arguments.now.items))
    (wanted_of c.args.wanted))
