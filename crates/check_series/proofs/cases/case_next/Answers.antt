use Rattle.std.proofs.Common.{refl}
use Rattle.expr_tree.specs.View.{pattern_trees, pattern_views, view_of}
use Rattle.class_checks.specs.Patterns.{patterns_faults}
use Rattle.check_steps.specs.Below.check_scopes.specs.Told.{first_in, spec_in, types_in}
use Rattle.check_steps.specs.Below.check_frames.specs.Meant.{scope_here}
use Rattle.check_steps.specs.Below.check_frames.specs.Steps.{refused_next, told_onward}
use Rattle.check_steps.specs.Begun.{case_begun}
use Rattle.check_series.proofs.cases.case_next.Goals as goal

pub returns : goal.returns
returns c =
    told_onward c.args.here.setting c.case_behind.result (first_in c.args.refusals.now) (first_in c.patterns_faults.new.refusals) _ _
    (case_begun c.args.here.setting (scope_here c.args.here) c.args.known (record { patterns = pattern_views c.args.case.now.patterns.items; value = view_of c.args.case.now.value.value }) c.args.all)
    (refused_next c.args.here.setting c.case_behind.result (first_in c.args.refusals.now) _ (patterns_faults (spec_in c.args.here.setting) (types_in c.args.here.setting) (pattern_trees (pattern_views c.args.case.now.patterns.items))) _ _ c.in_ok-patterns_faults.ensures refl c.case_behind.ensures)
