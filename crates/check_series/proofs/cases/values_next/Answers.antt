use Rattle.std.proofs.Common.{ap, drop, map, sym, ◌+◌, ◌∙◌, ◌∷◌}
use Rattle.class_checks.specs.Scopes.{Locals}
use Rattle.check_steps.specs.Below.check_scopes.specs.Told.{first_in, scope_at}
use Rattle.check_steps.specs.Below.check_frames.specs.Meant.{at, boxed, scope_here}
use Rattle.check_steps.specs.Below.check_frames.specs.Steps.{told_next, told_onward}
use Rattle.check_steps.specs.Begun.{first_value, no_values}
use Rattle.check_steps.specs.Firsts.{next_mapped, past_mapped}
use Rattle.check_series.proofs.cases.values_next.Goals as goal

pub returns-in-Some : goal.returns-in-Some
returns-in-Some c =
    told_next c.args.here.setting c.value_next.result (first_in c.args.refusals.now) _ _
    (first_value c.args.here.setting (scope_here c.args.here) c.args.known _ _ _
    (next_mapped (at c.args.here.setting) c.as_slice.result.now c.args.values.scopes.items c.args.values.next c.in-Some.scope.now c.as_slice.ensures.value c.in-Some.ensures.lookup.3.0 c.in-Some.ensures.lookup.1
    ∙ ap (λ (names : Locals). scope_at c.args.here.setting names ∷ drop (c.args.values.next + 1) (map (at c.args.here.setting) c.args.values.scopes.items)) (sym c.in_ok-scope-in-Some.ensures)))
    c.value_next.ensures

pub returns : goal.returns
returns c =
    told_onward c.args.here.setting c.cases_next.result (first_in c.args.refusals.now) (first_in c.cases_next.new.refusals) _ _
    (no_values c.args.here.setting (scope_here c.args.here) c.args.known (boxed c.args.values.value) _ c.args.values.all (past_mapped (at c.args.here.setting) c.as_slice.result.now c.args.values.scopes.items c.args.values.next c.as_slice.ensures.value c.in-None.ensures.lookup.3))
    c.cases_next.ensures
