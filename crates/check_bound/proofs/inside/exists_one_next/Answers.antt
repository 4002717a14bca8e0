use Rattle.std.proofs.Common.{None, [], ap, sym, ◌∙◌}
use Rattle.abstract_syntax.specs.Expressions.{BindTree, bind_in, exists_one, no_binds}
use Rattle.expr_tree.specs.View.{pattern_trees, pattern_views, view_of}
use Rattle.class_checks.specs.Expressions.{check}
use Rattle.check_frames.specs.Below.check_scopes.specs.Told.{spec_in}
use Rattle.check_frames.specs.Meant.{bind_check, boxed, scope_here}
use Rattle.check_frames.specs.Steps.{onward}
use Rattle.check_frames.specs.declared.inside.Body.{Body}
use Rattle.check_series.specs.Below.check_steps.specs.Viewed.{bind_parts}
use Rattle.check_bound.proofs.Begun.{exists_one_begun}
use Rattle.check_bound.proofs.inside.exists_one_next.Goals as goal

pub returns : goal.returns
returns c =
    λ place. onward c.args.here.setting c.within_bind.result _ _
    (ap (λ (b : BindTree). check (spec_in c.args.here.setting) (scope_here c.args.here) (exists_one b (boxed c.args.condition) place)) (bind_parts c.args.bind.now.value)
    ∙ (λ i. check (spec_in c.args.here.setting) (scope_here c.args.here) (exists_one (bind_in (pattern_trees (pattern_views (sym c.deref.ensures i).patterns.items)) (view_of (sym c.deref-2.ensures i).set.value)) (boxed c.args.condition) place))
    ∙ exists_one_begun c.args.here.setting (scope_here c.args.here) (pattern_trees (pattern_views c.deref.result.now.patterns.items)) (view_of c.deref-2.result.now.set.value) c.args.condition place
    ∙ ap (λ (b : Body). bind_check c.args.here.setting (scope_here c.args.here) [] (pattern_trees (pattern_views c.deref.result.now.patterns.items)) (view_of c.deref-2.result.now.set.value) no_binds (record { condition = None; body = b })) (sym c.under.ensures))
    c.within_bind.ensures
