use Rattle.std.proofs.Common.{List, ap, ◌∙◌, map}
use Rattle.expr_tree.specs.declared.pattern.Bind.{Bind}
use Rattle.expr_tree.specs.View.{bind_trees, bind_view}
use Rattle.tree_frames.proofs.Pushes.{binds-push}
use Rattle.tree_frames.proofs.lists.with_bind.Goals as goal

pub returns : goal.returns
returns c = ap (λ (items : List Bind). bind_trees (map bind_view items)) c.in_ok-push.ensures.items ∙ binds-push c.args.items.items c.args.last
