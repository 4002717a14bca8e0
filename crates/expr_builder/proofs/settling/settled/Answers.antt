use Rattle.std.proofs.Common.{◌∙◌}
use Rattle.expr_tree.specs.View.{view_of}
use Rattle.expr_builder.proofs.Ending.{settled-done, settled-on}
use Rattle.tree_frames.specs.Views.{stack_view}
use Rattle.expr_builder.proofs.settling.settled.Goals as goal

pub loop-frame-preserved : goal.loop-frame-preserved
loop-frame-preserved c = settled-on _ _ _ _ _ _ c.in-Some.ensures.frame.0 c.in-Some.ensures.frame.1 c.in_ok-tree.ensures ∙ c.loop-frame.invariant

pub returns : goal.returns
returns c =
    let last = rw c.in_default.is at c.pulling.ensures.frame in
    settled-done c.args.behind (view_of c.loop-frame.tree.value) (view_of c.args.tree.value) (stack_view c.loop-frame.frames.items) (stack_view c.args.frames.now.items) (stack_view c.pulling.new.frames.items) c.loop-frame.invariant last.0 last.1
