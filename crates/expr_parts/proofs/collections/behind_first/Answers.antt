use Rattle.std.proofs.Common.{◌≡◌, true, false}
use Rattle.expr_tree.specs.View.{expr_trees, view_of, views_of}
use Rattle.expr_parts.proofs.Firsts.{behind-none, behind-others}
use Rattle.tree_frames.specs.Views.{listed_view, stack_view, stop_view}
use Rattle.tree_nodes.specs.Emptiness.{is_empty_exprs}
use Rattle.expr_parts.proofs.collections.behind_first.Goals as goal

pub returns-then-is_empty : goal.returns-then-is_empty
returns-then-is_empty c =
    let first : is_empty_exprs (expr_trees (views_of c.args.items.items)) ≡ true = cc in
    behind-none _ _ (listed_view c.args.listed) (expr_trees (views_of c.args.items.items)) (view_of c.args.tree.value) c.args.place (stop_view c.args.stop) (stack_view c.args.frames.now.items) first c.behind_only.ensures

pub returns-else-is_empty : goal.returns-else-is_empty
returns-else-is_empty c =
    let more : is_empty_exprs (expr_trees (views_of c.args.items.items)) ≡ false = cc in
    behind-others _ _ (listed_view c.args.listed) (expr_trees (views_of c.args.items.items)) (view_of c.args.tree.value) c.args.place (stop_view c.args.stop) more c.closed_with.ensures
