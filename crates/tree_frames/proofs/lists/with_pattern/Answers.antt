use Rattle.std.proofs.Common.{List, ap, ◌∙◌}
use Rattle.expr_tree.specs.declared.pattern.Pattern.{Pattern}
use Rattle.expr_tree.specs.View.{pattern_trees, pattern_views}
use Rattle.tree_frames.proofs.Pushes.{patterns-push}
use Rattle.tree_frames.proofs.lists.with_pattern.Goals as goal

pub returns : goal.returns
returns c = ap (λ (items : List Pattern). pattern_trees (pattern_views items)) c.in_ok-push.ensures.items ∙ patterns-push c.args.items.items c.args.last
