use Rattle.std.proofs.Common.{ap, sym}
use Rattle.vdm_kinds.specs.declared.place.Place.{Place}
use Rattle.class_checks.specs.Expressions.{check}
use Rattle.class_checks.specs.Results.{after}
use Rattle.check_steps.specs.Below.check_scopes.specs.Told.{spec_in}
use Rattle.check_steps.specs.Below.check_frames.specs.Meant.{boxed, scope_here, target_check}
use Rattle.check_steps.specs.Below.check_frames.specs.Steps.{onward}
use Rattle.check_called.proofs.selections.selected_next.Goals as goal

pub returns : goal.returns
returns c =
    onward c.args.here.setting c.part_of.result _ _ (ap (λ (p : Place). after (check (spec_in c.args.here.setting) (scope_here c.args.here) (boxed c.args.target)) (target_check c.args.here.setting (scope_here c.args.here) p c.args.named.name c.args.named.place c.args.way)) (sym c.place_of.ensures)) c.part_of.ensures
