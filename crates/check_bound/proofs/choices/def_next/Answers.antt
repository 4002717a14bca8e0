use Rattle.expr_tree.specs.View.{pattern_view}
use Rattle.check_frames.specs.Meant.{boxed, scope_here}
use Rattle.check_frames.specs.Steps.{onward}
use Rattle.check_bound.proofs.Begun.{def_begun}
use Rattle.check_bound.proofs.choices.def_next.Goals as goal

pub returns : goal.returns
returns c =
    λ place. onward c.args.here.setting c.part_of.result _ _ (def_begun c.args.here.setting (scope_here c.args.here) (pattern_view c.args.pattern.now.value) (boxed c.args.value) (boxed c.args.body) place) c.part_of.ensures
