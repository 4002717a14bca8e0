use Rattle.std.proofs.Common.{List, ap, ◌∙◌, map}
use Rattle.expr_tree.specs.declared.parts.Branch.{Branch}
use Rattle.expr_tree.specs.View.{branch_trees, branch_view}
use Rattle.tree_frames.proofs.Pushes.{branches-push}
use Rattle.tree_frames.proofs.lists.with_branch.Goals as goal

pub returns : goal.returns
returns c = ap (λ (items : List Branch). branch_trees (map branch_view items)) c.in_ok-push.ensures.items ∙ branches-push c.args.items.items c.args.last
