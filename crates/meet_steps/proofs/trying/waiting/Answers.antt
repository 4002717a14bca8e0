use Rattle.std.proofs.Common.{List, drop, ap, ◌∙◌}
use Rattle.abstract_syntax.specs.Values.{ValueTree}
use Rattle.expr_tree.specs.View.{boxed_view}
use Rattle.plans.specs.Plans.{part}
use Rattle.node_meaning.specs.Envs.{at}
use Rattle.node_meaning.specs.Matching.{exprs_of}
use Rattle.node_meaning.specs.Strict.{with_others}
use Rattle.node_meaning.specs.Tasks.{evaluated, expr_in}
use Rattle.eval_data.specs.Parts.{boxed_list, here_of}
use Rattle.step_data.specs.declared.meeting.Given.{Given}
use Rattle.step_data.specs.Meetings.{given_then, met_value}
use Rattle.meet_steps.proofs.trying.waiting.Goals as goal

pub returns-clause-same : goal.returns-clause-same
returns-clause-same c = λ spec locals.
    let here = here_of c.args.meeting.here in
    let place = c.args.meeting.place in
    let first = boxed_view c.args.first.now in
    let others = exprs_of (drop 1 (boxed_list c.args.found.items)) in
    c.part.ensures.same spec locals
    ∙ ap (λ (g : Given). part (expr_in (at here locals) first) (given_then spec g)) c.in_ok-given.ensures.ok
    ∙ ap (λ (vs : List ValueTree). evaluated here locals first place (with_others here place others vs (met_value spec c.args.meeting))) c.new-given.ensures.items
