use Rattle.std.proofs.Common.{sym, ◌∙◌}
use Rattle.class_checks.specs.Callees.{selected_of_class}
use Rattle.shared_names.specs.Maps.{held}
use Rattle.check_series.specs.Below.check_scopes.specs.Told.{first_in, spec_in}
use Rattle.check_series.specs.Below.check_calls.specs.Selecting.{use_view}
use Rattle.check_series.specs.Below.check_frames.specs.Meant.{called_with, scope_here}
use Rattle.check_series.specs.Below.check_frames.specs.Steps.{told_onward}
use Rattle.check_series.specs.Below.check_steps.specs.Calls.{called_on}
use Rattle.check_parts.proofs.Behinds.{target_of_class_begun}
use Rattle.check_parts.proofs.targets.target_of_class_behind.Goals as goal

pub returns : goal.returns
returns c =
    let later = first_in c.selected_of_class.new.refusals in
    told_onward c.args.here.setting c.called_next.result (first_in c.args.refusals.now) later _ _
    (target_of_class_begun c.args.here.setting (scope_here c.args.here) c.args.target_place c.args.class.name c.args.class.place c.args.named.name c.args.named.place c.args.way c.args.form
    ∙ (λ i. called_with c.args.here.setting (scope_here c.args.here) (sym (c.arguments_of.ensures c.args.here.setting) i) (selected_of_class (spec_in c.args.here.setting) (scope_here c.args.here) (sym (c.used_so-used.ensures c.args.here.setting) i) c.args.target_place c.args.class.name c.args.class.place c.args.named.name c.args.named.place c.args.form)))
    (called_on c.args.here.setting c.called_next.result (scope_here c.args.here) c.arguments_of.result (first_in c.args.refusals.now) later c.in_ok-callee.callee (selected_of_class (spec_in c.args.here.setting) (scope_here c.args.here) (use_view c.used_so-used.result) c.args.target_place c.args.class.name c.args.class.place c.args.named.name c.args.named.place c.args.form) (c.in_ok-callee.ensures (held c.args.here.locals.now)) c.called_next.ensures)
