use Rattle.std.proofs.Common.{ℕ, ◌++◌, ap, ◌∙◌}
use Rattle.expr_tree.specs.View.{boxed_view, view_of}
use Rattle.expr_tree.specs.declared.expr.Expr.{Expr}
use Rattle.spec_checks.specs.Definitions.{delay_most, number_of}
use Rattle.class_checks.specs.Results.{first_among}
use Rattle.part_checks.specs.Below.check_binds.proofs.Behinds.{on_both}
use Rattle.part_checks.specs.Below.check_scopes.specs.Told.{first_in, types_in}
use Rattle.part_checks.specs.Below.check_frames.specs.Meant.{scope_here, spec_here}
use Rattle.sync_checks.specs.Numbers.{delay_in, most, tick_in}
use Rattle.sync_checks.proofs.phases.refuse_phase.Goals as goal

pub returns : goal.returns
returns c =
    let spec = spec_here c.args.here in
    let scope = scope_here c.args.here in
    let class = types_in c.args.here.setting in
    let first = first_in c.args.refusals.now in
    let second = first_in c.refuse_tick.new.refusals in
    let third = first_in c.refuse_tick-2.new.refusals in
    let last = first_in c.refuse_tick-3.new.refusals in
    let jitter = tick_in spec scope 0 (most spec scope) (boxed_view c.args.phase.now.jitter) in
    let delay = tick_in spec scope 0 (delay_in spec scope (boxed_view c.args.period.now)) (boxed_view c.args.phase.now.delay) in
    let offset = tick_in spec scope 0 (most spec scope) (boxed_view c.args.phase.now.offset) in
    let known = c.number_of-known.ensures ∙ ap (λ (e : Expr). number_of spec class (view_of e)) c.deref.ensures in
    let limit = c.delay_most.ensures spec class ∙ ap (delay_most spec class) known in
    on_both c.refuse_tick-3.result first second last jitter (delay ++ offset) c.in_ok-refuse_tick.ensures
    (on_both c.refuse_tick-3.result second third last delay offset
    (c.in_ok-refuse_tick-2.ensures ∙ ap (λ (n : ℕ). first_among second (tick_in spec scope 0 n (boxed_view c.args.phase.now.delay))) limit)
    c.refuse_tick-3.ensures)
