use Rattle.std.proofs.Common.{List, ap, map, sym, ◌∙◌}
use Rattle.expr_tree.specs.View.{field_value_trees, field_value_view}
use Rattle.expr_tree.specs.declared.parts.FieldValue.{FieldValue}
use Rattle.class_checks.specs.Expressions.{changed}
use Rattle.class_checks.specs.Shapes.{Seen}
use Rattle.check_calls.specs.Below.check_scopes.specs.Told.{spec_in}
use Rattle.check_frames.specs.Below.check_shapes.specs.ShapeView.{names_of, seen_view, shape_view}
use Rattle.check_frames.specs.Meant.{boxed, part_then, rest_check, scope_here}
use Rattle.check_frames.specs.Steps.{onward}
use Rattle.check_steps.proofs.parts.rest_next.Goals as goal

pub returns-in-Two : goal.returns-in-Two
returns-in-Two c =
    onward c.args.here.setting c.part_next-in-Two.result _ _ (ap (rest_check c.args.here.setting (scope_here c.args.here) (shape_view c.args.shape) (map seen_view c.args.done.items)) c.in-Two.is) c.part_next-in-Two.ensures

pub returns-in-Three : goal.returns-in-Three
returns-in-Three c =
    onward c.args.here.setting c.part_next-in-Three.result _ _ (ap (rest_check c.args.here.setting (scope_here c.args.here) (shape_view c.args.shape) (map seen_view c.args.done.items)) c.in-Three.is) c.part_next-in-Three.ensures

pub returns-in-MapletValue : goal.returns-in-MapletValue
returns-in-MapletValue c =
    onward c.args.here.setting c.part_next-in-MapletValue.result _ _ (ap (rest_check c.args.here.setting (scope_here c.args.here) (shape_view c.args.shape) (map seen_view c.args.done.items)) c.in-MapletValue.is) c.part_next-in-MapletValue.ensures

pub returns : goal.returns
returns c =
    onward c.args.here.setting c.part_next-in-Modified.result _ _
    (ap (rest_check c.args.here.setting (scope_here c.args.here) (shape_view c.args.shape) (map seen_view c.args.done.items)) c.in-Modified.is
    ∙ ap (λ (fs : List FieldValue). part_then c.args.here.setting (scope_here c.args.here) (shape_view c.args.shape) (map seen_view c.args.done.items) (boxed c.in-Modified.part) (λ (more : List Seen).
    changed (spec_in c.args.here.setting) (scope_here c.args.here) (names_of c.in-Modified.changed.now.items) more (field_value_trees (map field_value_view fs)))) (sym c.as_slice-values.ensures.value))
    c.part_next-in-Modified.ensures
