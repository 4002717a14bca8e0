use Rattle.std.proofs.Common.{ap, ◌∙◌}
use Rattle.expr_tree.specs.View.{boxed_view}
use Rattle.plans.specs.Plans.{part}
use Rattle.node_meaning.specs.Envs.{at}
use Rattle.node_meaning.specs.Tasks.{expr_in}
use Rattle.eval_data.specs.Parts.{here_of}
use Rattle.step_data.specs.declared.meeting.Given.{Given}
use Rattle.step_data.specs.Meetings.{given_then}
use Rattle.meet_steps.proofs.meeting.bracket_part.Goals as goal

pub returns-clause-same : goal.returns-clause-same
returns-clause-same c = λ spec locals.
    let g = c.args.given.value in
    let h = c.set_next.new.given in
    c.part.ensures.same spec locals
    ∙ ap (λ (x : Given). part (expr_in (at (here_of x.meeting.here) locals) (boxed_view c.args.tree.now)) (given_then spec h)) c.deref.ensures
    ∙ ap (λ (x : Given). part (expr_in (at (here_of g.meeting.here) locals) (boxed_view c.args.tree.now)) (given_then spec x))
    (c.set_next.ensures ∙ ap (λ (x : Given). record x { next = c.args.next }) c.deref_mut.ensures.value)
