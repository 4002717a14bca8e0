use Rattle.std.proofs.Common.{ap, sym, ◌∙◌}
use Rattle.eval_data.specs.Parts.{here_of}
use Rattle.vdm_tree.specs.StmtView.{boxed_stmt, maybe_stmt}
use Rattle.stmt_meaning.specs.Statements.{branch_taken, branches_of}
use Rattle.step_data.specs.Parts.{branches_left}
use Rattle.flow_values.specs.Came.{truth_code}
use Rattle.flow_steps.proofs.branches.branch_decided.Goals as goal

pub returns-in-Is-clause-same : goal.returns-in-Is-clause-same
returns-in-Is-clause-same c = λ spec locals.
    let here = here_of c.args.here in
    let further = branch_taken here (boxed_stmt c.args.statement.now) (branches_of here c.args.place (branches_left c.args.more.now) (maybe_stmt c.args.otherwise.now)) in
    c.branch-here.ensures.same spec locals
    ∙ ap (truth_code c.args.place further locals) (sym c.in-Is.is)
    ∙ c.truth_in.ensures c.args.place further locals
