use Rattle.std.proofs.Common.{ap, sym, ◌∙◌}
use Rattle.expr_tree.specs.View.{view_of}
use Rattle.node_meaning.specs.Expressions.{expr_plan}
use Rattle.eval_data.specs.Parts.{here_of}
use Rattle.eval_steps.proofs.Results.{if_ok}
use Rattle.eval_steps.proofs.Views.{view-SequenceComprehension}
use Rattle.eval_steps.specs.Settings.{set}
use Rattle.eval_steps.proofs.searched.searched.Goals as goal

pub returns-in-SequenceComprehension : goal.returns-in-SequenceComprehension
returns-in-SequenceComprehension c =
    if_ok c.choosing_in.result c.choosing_in.ensures (λ s is asker.
    is (set c.args.table.now asker) c.args.locals.now.items
    ∙ sym (ap (expr_plan (set c.args.table.now asker) (here_of c.args.here) c.args.locals.now.items) (ap view_of c.in-SequenceComprehension.is ∙ view-SequenceComprehension _ _ _ _ _)))
