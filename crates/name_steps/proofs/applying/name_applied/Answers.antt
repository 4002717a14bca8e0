use Rattle.std.proofs.Common.{option_map, ap, sym, ◌∙◌}
use Rattle.std.specs.Borrow.{Bor}
use Rattle.vdm_values.specs.declared.slot.Slot.{Slot}
use Rattle.expr_tree.specs.View.{boxed_view, expr_trees, views_of}
use Rattle.node_meaning.specs.Expressions.{name_applied}
use Rattle.eval_data.specs.Parts.{here_of, wanted_of}
use Rattle.name_steps.specs.Settings.{set}
use Rattle.name_steps.proofs.Plans.{if_ok}
use Rattle.name_steps.proofs.applying.name_applied.Goals as goal

pub returns-in-Some : goal.returns-in-Some
returns-in-Some c = if_ok c.looked_up.result c.looked_up.ensures (λ s plan asker.
    plan (set c.args.table.now asker) c.args.locals.now ∙
    ap (λ o. name_applied (set c.args.table.now asker) (here_of c.args.here) (boxed_view c.args.head.now) c.args.name (expr_trees (views_of c.args.arguments.now.items))
    c.args.place (wanted_of c.args.wanted) o c.args.locals.now)
    (ap (option_map (λ (b : Bor Slot). b.now)) (sym c.in-Some.is) ∙ c.local_slot.ensures))

pub returns-in-None : goal.returns-in-None
returns-in-None c = if_ok c.hidden_by_none.result c.hidden_by_none.ensures (λ s plan asker.
    plan asker c.args.locals.now ∙
    ap (λ o. name_applied (set c.args.table.now asker) (here_of c.args.here) (boxed_view c.args.head.now) c.args.name (expr_trees (views_of c.args.arguments.now.items))
    c.args.place (wanted_of c.args.wanted) o c.args.locals.now)
    (ap (option_map (λ (b : Bor Slot). b.now)) (sym c.in-None.is) ∙ c.local_slot.ensures))
