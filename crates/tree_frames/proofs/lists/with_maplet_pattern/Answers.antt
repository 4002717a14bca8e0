use Rattle.std.proofs.Common.{List, ap, ◌∙◌, map}
use Rattle.expr_tree.specs.declared.pattern.MapletPattern.{MapletPattern}
use Rattle.expr_tree.specs.View.{maplet_pattern_trees, maplet_pattern_view}
use Rattle.tree_frames.proofs.Pushes.{maplet_patterns-push}
use Rattle.tree_frames.proofs.lists.with_maplet_pattern.Goals as goal

pub returns : goal.returns
returns c = ap (λ (items : List MapletPattern). maplet_pattern_trees (map maplet_pattern_view items)) c.in_ok-push.ensures.items ∙ maplet_patterns-push c.args.items.items c.args.last
