use Rattle.std.proofs.Common.{sym}
use Rattle.expr_tree.specs.View.{view_of}
use Rattle.expr_builder.proofs.Ending.{no-pattern}
use Rattle.tree_frames.specs.Views.{stack_view}
use Rattle.expr_builder.proofs.ends.end_pattern.Goals as goal

pub returns-in-Has : goal.returns-in-Has
returns-in-Has c = rw c.in-Has.is (sym (no-pattern (view_of c.in-Has.tree.value) (stack_view c.args.frames.now.items)))
