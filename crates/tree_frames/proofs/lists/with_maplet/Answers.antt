use Rattle.std.proofs.Common.{List, ap, ◌∙◌, map}
use Rattle.expr_tree.specs.declared.parts.Maplet.{Maplet}
use Rattle.expr_tree.specs.View.{maplet_trees, maplet_view}
use Rattle.tree_frames.proofs.Pushes.{maplets-push}
use Rattle.tree_frames.proofs.lists.with_maplet.Goals as goal

pub returns : goal.returns
returns c = ap (λ (items : List Maplet). maplet_trees (map maplet_view items)) c.in_ok-push.ensures.items ∙ maplets-push c.args.items.items c.args.last
