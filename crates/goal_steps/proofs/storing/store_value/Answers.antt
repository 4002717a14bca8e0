use Rattle.stmt_meaning.specs.Targets.{stored}
use Rattle.step_data.specs.Goals.{goal_view}
use Rattle.goal_steps.proofs.Coming.{value_came_by}
use Rattle.goal_steps.proofs.storing.store_value.Goals as goal

pub returns-in-Is-clause-same : goal.returns-in-Is-clause-same
returns-in-Is-clause-same c =
    value_came_by c.value_in.result c.args.flow c.in-Is.value c.in-Is.is c.value_in.ensures c.args.place
    (λ spec. stored c.args.place (goal_view c.args.goal)) c.args.locals.now.items c.stored.new.locals.items c.stored.result c.stored.ensures.same
