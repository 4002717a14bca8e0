use Rattle.std.proofs.Common.{ap, sym, ◌∙◌}
use Rattle.abstract_syntax.specs.Expressions.{MaybeExpr, sequence_comprehension}
use Rattle.expr_tree.specs.View.{pattern_view}
use Rattle.class_checks.specs.Expressions.{check}
use Rattle.check_frames.specs.Below.check_scopes.specs.Told.{spec_in}
use Rattle.check_frames.specs.Meant.{boxed, scope_here}
use Rattle.check_frames.specs.Steps.{onward}
use Rattle.check_bound.proofs.Begun.{maybe_same, sequence_of_begun}
use Rattle.check_bound.proofs.inside.sequence_of_next.Goals as goal

pub returns : goal.returns
returns c =
    λ place. onward c.args.here.setting c.within_bind.result _ _
    (ap (λ (o : MaybeExpr). check (spec_in c.args.here.setting) (scope_here c.args.here) (sequence_comprehension (boxed c.args.item) (pattern_view c.args.pattern.now.value) (boxed c.args.set) o place)) (sym (maybe_same c.args.condition.now c.as_ref.result c.as_ref.ensures.value))
    ∙ sequence_of_begun c.args.here.setting (scope_here c.args.here) c.args.item (pattern_view c.args.pattern.now.value) (boxed c.args.set) c.as_ref.result place)
    c.within_bind.ensures
