use Rattle.std.proofs.Common.{List, ap, map, sym}
use Rattle.class_checks.specs.Shapes.{Seen, part_faults, want_of}
use Rattle.check_series.specs.Below.check_scopes.specs.Told.{first_in, spec_in}
use Rattle.check_series.specs.Below.check_shapes.specs.ShapeView.{seen_view, shape_view}
use Rattle.check_series.specs.Below.check_frames.specs.Meant.{rest_check, scope_here}
use Rattle.check_series.specs.Below.check_frames.specs.Steps.{refused_next}
use Rattle.check_parts.proofs.node_parts.part_behind.Goals as goal

pub returns : goal.returns
returns c =
    refused_next c.args.here.setting c.rest_next.result (first_in c.args.refusals.now) (first_in c.next_part.new.refusals) (part_faults (spec_in c.args.here.setting) (want_of (spec_in c.args.here.setting) (shape_view c.args.shape) (map seen_view c.args.done.items)) c.args.place c.args.form) _ _ c.in_ok-done.ensures.1 (ap (λ (d : List Seen). rest_check c.args.here.setting (scope_here c.args.here) (shape_view c.args.shape) d c.args.rest) (sym c.in_ok-done.ensures.0)) c.rest_next.ensures
