use Rattle.std.proofs.Common.{ap, ◌∙◌}
use Rattle.expr_tree.specs.View.{boxed_view}
use Rattle.plans.specs.Plans.{part}
use Rattle.node_meaning.specs.Envs.{at}
use Rattle.node_meaning.specs.Tasks.{expr_in, with_value}
use Rattle.eval_data.specs.Parts.{here_of}
use Rattle.step_data.specs.declared.meeting.Defining.{Defining}
use Rattle.step_data.specs.Meetings.{defined_tested}
use Rattle.meet_steps.proofs.defining.value_of.Goals as goal

pub returns-clause-same : goal.returns-clause-same
returns-clause-same c = λ spec locals.
    c.part.ensures.same spec locals
    ∙ ap (λ (d : Defining). part (expr_in (at (here_of c.args.defining.here) locals) (boxed_view c.args.value.now)) (with_value d.place (defined_tested spec d)))
    c.in_ok-defining.ensures.ok
