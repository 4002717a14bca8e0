use Rattle.std.proofs.Common.{ap, sym, ◌∙◌}
use Rattle.expr_tree.specs.View.{boxed_view}
use Rattle.vdm_tree.specs.StmtView.{boxed_stmt}
use Rattle.stmt_meaning.specs.Loops.{while_decided}
use Rattle.eval_data.specs.Parts.{here_of}
use Rattle.flow_values.specs.Came.{truth_code}
use Rattle.loop_steps.proofs.whiles.while_decided.Goals as goal

pub returns-in-Is-clause-same : goal.returns-in-Is-clause-same
returns-in-Is-clause-same c = λ spec locals.
    let further = while_decided (here_of c.args.here) (boxed_view c.args.condition.now) (boxed_stmt c.args.body.now) c.args.place in
    c.while_true.ensures.same spec locals ∙ ap (truth_code c.args.place further locals) (sym c.in-Is.is) ∙ c.truth_in.ensures c.args.place further locals
