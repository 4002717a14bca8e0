use Rattle.std.proofs.Common.{Option, map, option_map, ap}
use Rattle.abstract_syntax.specs.Expressions.{one_defined}
use Rattle.abstract_syntax.specs.Types.{TypeTree}
use Rattle.type_tree.specs.TypeView.{type_view}
use Rattle.expr_tree.specs.View.{boxed_view, pattern_view, defined_view, defined_trees}
use Rattle.vdm_tree.specs.StmtView.{boxed_stmt}
use Rattle.node_meaning.specs.Expressions.{definitions}
use Rattle.node_meaning.specs.Fitting.{typed_maybe}
use Rattle.node_meaning.specs.Tasks.{evaluated}
use Rattle.stmt_meaning.specs.Flows.{stmt_within}
use Rattle.eval_data.specs.Parts.{here_of}
use Rattle.step_data.specs.declared.meeting.Defining.{Defining}
use Rattle.step_data.specs.Meetings.{defined_meets, defined_tested}
use Rattle.meet_steps.proofs.Moving.{at_all}
use Rattle.meet_steps.proofs.defining.first_defined.Goals as goal

pub returns-clause-same : goal.returns-clause-same
returns-clause-same c =
    let here = here_of c.args.here in
    let first = c.args.first.now in
    let d : Defining = record { here = c.args.here; place = c.args.place; pattern = record { ref_ptr = c.args.first.ref_ptr; now = first.pattern }; declared = c.type_of.result; more = c.args.more; body = c.args.body; count = c.args.count } in
    at_all c.value_of.result (λ spec locals. evaluated here locals (boxed_view first.value) c.args.place (defined_tested spec d))
    (λ spec locals. definitions spec here c.args.place (one_defined (pattern_view first.pattern.value) (option_map type_view first.declared) (boxed_view first.value) (defined_trees (map defined_view c.args.more.now))) (stmt_within here c.args.count (boxed_stmt c.args.body.now)) locals)
    c.value_of.ensures.same
    (λ spec locals. ap (λ (t : Option TypeTree). evaluated here locals (boxed_view first.value) c.args.place (typed_maybe spec here.nest here.scope t c.args.place (defined_meets spec d))) c.type_of.ensures)
