use Rattle.std.proofs.Common.{List, ap, ◌∙◌, map}
use Rattle.expr_tree.specs.declared.parts.Case.{Case}
use Rattle.expr_tree.specs.View.{case_trees, case_view}
use Rattle.tree_frames.proofs.Pushes.{cases-push}
use Rattle.tree_frames.proofs.lists.with_case.Goals as goal

pub returns : goal.returns
returns c = ap (λ (items : List Case). case_trees (map case_view items)) c.in_ok-push.ensures.items ∙ cases-push c.args.items.items c.args.last
