use Rattle.std.proofs.Common.{ap, drop, map, sym, ◌+◌, ◌∙◌, ◌∷◌}
use Rattle.class_checks.specs.Scopes.{Locals}
use Rattle.stmt_pending.specs.Below.check_scopes.specs.Told.{first_in, scope_at}
use Rattle.stmt_pending.specs.Below.check_frames.specs.Meant.{at}
use Rattle.stmt_pending.specs.Below.stmt_scopes.specs.Standing.{declared_in, stands_here}
use Rattle.stmt_pending.specs.Meant.{boxed}
use Rattle.stmt_pending.specs.Steps.{next_onward, next_same}
use Rattle.stmt_exprs.specs.Below.check_steps.specs.Firsts.{next_mapped, past_mapped}
use Rattle.stmt_chosen.proofs.Begun.{first_body, no_bodies}
use Rattle.stmt_chosen.proofs.alternatives.bodies_next.Goals as goal

pub returns-in-Some : goal.returns-in-Some
returns-in-Some c =
    next_same c.args.stands.here.setting c.args.stands.returned.now c.body_next.result (first_in c.args.refusals.now) _ _
    (first_body c.args.stands.here.setting (stands_here c.args.stands) _ _ _
    (next_mapped (at c.args.stands.here.setting) c.as_slice.result.now c.args.bodies.scopes.items c.args.bodies.next c.in-Some.scope.now c.as_slice.ensures.value c.in-Some.ensures.lookup.3.0 c.in-Some.ensures.lookup.1
    ∙ ap (λ (names : Locals). scope_at c.args.stands.here.setting names ∷ drop (c.args.bodies.next + 1) (map (at c.args.stands.here.setting) c.args.bodies.scopes.items)) (sym c.in_ok-scope-in-Some.ensures)))
    c.body_next.ensures

pub returns : goal.returns
returns c =
    next_onward c.args.stands.here.setting c.args.stands.returned.now c.cases_next.result (first_in c.args.refusals.now) (first_in c.cases_next.new.refusals) _ _
    (no_bodies c.args.stands.here.setting (stands_here c.args.stands) (declared_in c.args.bodies.declared) (boxed c.args.bodies.body) _ c.args.bodies.all
    (past_mapped (at c.args.stands.here.setting) c.as_slice.result.now c.args.bodies.scopes.items c.args.bodies.next c.as_slice.ensures.value c.in-None.ensures.lookup.3))
    c.cases_next.ensures
