use Rattle.std.proofs.Common.{ap, sym, ◌∙◌}
use Rattle.abstract_syntax.specs.Expressions.{BindTree, MaybeExpr, bind_in, let_be}
use Rattle.expr_tree.specs.View.{bind_view, pattern_trees, pattern_views, view_of}
use Rattle.class_checks.specs.Expressions.{check}
use Rattle.check_frames.specs.Below.check_scopes.specs.Told.{spec_in}
use Rattle.check_frames.specs.Meant.{boxed, maybe_boxed, scope_here}
use Rattle.check_frames.specs.Steps.{onward}
use Rattle.check_series.specs.Below.check_steps.specs.Viewed.{bind_parts}
use Rattle.check_bound.proofs.Begun.{let_be_begun, maybe_same}
use Rattle.check_bound.proofs.inside.let_be_next.Goals as goal

pub returns : goal.returns
returns c =
    λ place. onward c.args.here.setting c.within_bind.result _ _
    (ap (λ (o : MaybeExpr). check (spec_in c.args.here.setting) (scope_here c.args.here) (let_be (bind_view c.args.bind.now.value) o (boxed c.args.body) place)) (sym (maybe_same c.args.condition.now c.as_ref.result c.as_ref.ensures.value))
    ∙ ap (λ (b : BindTree). check (spec_in c.args.here.setting) (scope_here c.args.here) (let_be b (maybe_boxed c.as_ref.result) (boxed c.args.body) place)) (bind_parts c.args.bind.now.value)
    ∙ (λ i. check (spec_in c.args.here.setting) (scope_here c.args.here) (let_be (bind_in (pattern_trees (pattern_views (sym c.deref.ensures i).patterns.items)) (view_of (sym c.deref-2.ensures i).set.value)) (maybe_boxed c.as_ref.result) (boxed c.args.body) place))
    ∙ let_be_begun c.args.here.setting (scope_here c.args.here) (pattern_trees (pattern_views c.deref.result.now.patterns.items)) (view_of c.deref-2.result.now.set.value) c.as_ref.result c.args.body place)
    c.within_bind.ensures
