use Rattle.std.proofs.Common.{List, ap, ◌∙◌, map}
use Rattle.expr_tree.specs.declared.parts.Defined.{Defined}
use Rattle.expr_tree.specs.View.{defined_trees, defined_view}
use Rattle.tree_frames.proofs.Pushes.{defined-push}
use Rattle.tree_frames.proofs.lists.with_defined.Goals as goal

pub returns : goal.returns
returns c = ap (λ (items : List Defined). defined_trees (map defined_view items)) c.in_ok-push.ensures.items ∙ defined-push c.args.items.items c.args.last
