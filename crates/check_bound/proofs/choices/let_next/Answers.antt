use Rattle.std.proofs.Common.{List, ap, map, sym, ◌∙◌}
use Rattle.expr_tree.specs.View.{defined_trees, defined_view}
use Rattle.expr_tree.specs.declared.parts.Defined.{Defined}
use Rattle.class_checks.specs.Expressions.{defined_in}
use Rattle.check_frames.specs.Below.check_scopes.specs.Told.{spec_in}
use Rattle.check_frames.specs.Meant.{boxed, let_body, scope_here}
use Rattle.check_frames.specs.Steps.{onward}
use Rattle.check_bound.proofs.Begun.{let_begun}
use Rattle.check_bound.proofs.choices.let_next.Goals as goal

pub returns : goal.returns
returns c =
    λ place. onward c.args.here.setting c.definitions_next.result _ _
    (let_begun c.args.here.setting (scope_here c.args.here) (defined_trees (map defined_view c.args.definitions.now.items)) (boxed c.args.body) place
    ∙ ap (λ (ds : List Defined). defined_in (spec_in c.args.here.setting) (scope_here c.args.here) (defined_trees (map defined_view ds)) (let_body c.args.here.setting (boxed c.args.body))) (sym c.as_slice.ensures.value))
    c.definitions_next.ensures
