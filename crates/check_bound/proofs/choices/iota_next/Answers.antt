use Rattle.std.proofs.Common.{ap, sym, ◌∙◌}
use Rattle.abstract_syntax.specs.Expressions.{BindTree, bind_in, expr_place, iota_of}
use Rattle.expr_tree.specs.View.{pattern_trees, pattern_views, view_of}
use Rattle.expr_tree.specs.declared.pattern.Bind.{Bind}
use Rattle.class_checks.specs.Expressions.{check}
use Rattle.check_frames.specs.Below.check_scopes.specs.Told.{spec_in}
use Rattle.check_frames.specs.Meant.{boxed, scope_here}
use Rattle.check_frames.specs.Steps.{onward}
use Rattle.check_series.specs.Below.check_steps.specs.Viewed.{bind_parts}
use Rattle.check_bound.proofs.Begun.{iota_begun}
use Rattle.check_bound.proofs.choices.iota_next.Goals as goal

pub returns : goal.returns
returns c =
    λ place. onward c.args.here.setting c.part_of.result _ _
    (ap (λ (b : BindTree). check (spec_in c.args.here.setting) (scope_here c.args.here) (iota_of b (boxed c.args.condition) place)) (bind_parts c.args.bind.now.value)
    ∙ (λ i. check (spec_in c.args.here.setting) (scope_here c.args.here) (iota_of (bind_in (pattern_trees (pattern_views (sym c.deref.ensures i).patterns.items)) (view_of (sym c.deref-3.ensures i).set.value)) (boxed c.args.condition) place))
    ∙ iota_begun c.args.here.setting (scope_here c.args.here) (pattern_trees (pattern_views c.deref.result.now.patterns.items)) (view_of c.deref-3.result.now.set.value) (boxed c.args.condition) c.place_of.result place
    (c.place_of.ensures ∙ ap (λ (b : Bind). expr_place (view_of b.set.value)) (c.deref-2.ensures ∙ sym c.deref-3.ensures)))
    c.part_of.ensures
