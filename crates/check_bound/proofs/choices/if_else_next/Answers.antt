use Rattle.std.proofs.Common.{map, sym, ◌∙◌}
use Rattle.expr_tree.specs.View.{branch_trees, branch_view}
use Rattle.check_frames.specs.Meant.{boxed, branch_check, scope_here}
use Rattle.check_frames.specs.Steps.{onward}
use Rattle.check_bound.proofs.Begun.{if_else_begun}
use Rattle.check_bound.proofs.choices.if_else_next.Goals as goal

pub returns : goal.returns
returns c =
    λ place. onward c.args.here.setting c.if_next.result _ _
    (if_else_begun c.args.here.setting (scope_here c.args.here) (boxed c.args.condition) (boxed c.args.value) (branch_trees (map branch_view c.args.elseifs.now.items)) (boxed c.args.otherwise) place
    ∙ (λ i. branch_check c.args.here.setting (scope_here c.args.here) (sym c.nothing.ensures i) (boxed c.args.condition) (boxed c.args.value) (branch_trees (map branch_view (sym c.as_slice.ensures.value i))) (boxed c.args.otherwise)))
    c.if_next.ensures
