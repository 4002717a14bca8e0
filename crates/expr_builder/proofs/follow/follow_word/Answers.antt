use Rattle.expr_tree.specs.View.{view_of}
use Rattle.tree_frames.specs.Views.{stack_view}
use Rattle.expr_builder.proofs.Ending.{followed-by}
use Rattle.expr_builder.proofs.follow.follow_word.Goals as goal

pub returns : goal.returns
returns c = followed-by _ _ c.args.word c.args.place (view_of c.args.tree.value) _ (stack_view c.args.frames.now.items) _ c.word_pull.result c.word_pull.ensures c.in_ok-tree.ensures c.go_on.ensures
