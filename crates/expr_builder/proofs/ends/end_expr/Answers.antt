use Rattle.std.proofs.Common.{ap, ◌∙◌}
use Rattle.expr_tree.specs.View.{view_of}
use Rattle.grammar_trees.specs.Reading.{built_expr}
use Rattle.expr_builder.proofs.Ending.{ended-on}
use Rattle.tree_frames.specs.Views.{stack_view}
use Rattle.expr_builder.proofs.ends.end_expr.Goals as goal

pub returns-in_ok-tree-in-Has : goal.returns-in_ok-tree-in-Has
returns-in_ok-tree-in-Has c =
    rw c.in-Has.is (c.alone.ensures ∙ ap built_expr (ended-on (view_of c.in-Has.tree.value) _ (stack_view c.args.frames.now.items) _ c.in_ok-tree-in-Has.ensures))
