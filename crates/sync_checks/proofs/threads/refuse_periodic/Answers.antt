use Rattle.std.proofs.Common.{◌++◌, option_map}
use Rattle.expr_tree.specs.View.{boxed_view}
use Rattle.vdm_tree.specs.ClassView.{phase_view}
use Rattle.part_checks.specs.Below.check_scopes.specs.Told.{first_in}
use Rattle.part_checks.specs.Below.check_frames.specs.Meant.{scope_here, spec_here}
use Rattle.sync_checks.specs.Numbers.{most, phase_in, tick_in}
use Rattle.sync_checks.specs.Releases.{release_in}
use Rattle.sync_checks.proofs.Noted.{both}
use Rattle.sync_checks.proofs.threads.refuse_periodic.Goals as goal

pub returns : goal.returns
returns c =
    let spec = spec_here c.args.here in
    let scope = scope_here c.args.here in
    let period = boxed_view c.args.period.now in
    let first = first_in c.args.refusals.now in
    let second = first_in c.refuse_tick.new.refusals in
    let third = first_in c.refuse_maybe_phase.new.refusals in
    let last = first_in c.refuse_release.new.refusals in
    let phase = phase_in spec scope period (option_map phase_view c.args.phase.now) in
    let release = release_in spec scope c.args.release.name c.args.release.name_place c.args.release.place in
    both first second last (tick_in spec scope 1 (most spec scope) period) (phase ++ release) c.in_ok-refuse_tick.ensures
    (both second third last phase release c.in_ok-refuse_maybe_phase.ensures c.refuse_release.ensures)
