use Rattle.std.proofs.Common.{[], ap, ◌∙◌}
use Rattle.plans.specs.Plans.{part}
use Rattle.vdm_tree.specs.declared.stmt.Stmt.{Stmt}
use Rattle.vdm_tree.specs.StmtView.{stmt_view, boxed_stmt}
use Rattle.node_meaning.specs.Envs.{Locals, at}
use Rattle.stmt_meaning.specs.Handlers.{unless_replaced}
use Rattle.node_meaning.specs.Tasks.{stmt_in}
use Rattle.eval_data.specs.Parts.{flow_of, here_of}
use Rattle.flow_steps.proofs.Keeping.{kept}
use Rattle.flow_steps.proofs.leaving.at_last.Goals as goal

pub returns-clause-same : goal.returns-clause-same
returns-clause-same c = λ spec.
    ap (λ (s : Stmt). part (stmt_in (at (here_of c.args.here) c.truncate.new.self.items) [] (stmt_view s)) (unless_replaced (flow_of c.args.flow []))) c.deref.ensures
    ∙ ap (λ (l : Locals). part (stmt_in (at (here_of c.args.here) l) [] (boxed_stmt c.args.last.now)) (unless_replaced (flow_of c.args.flow []))) c.truncate.ensures.items
    ∙ kept (here_of c.args.here) c.args.count (boxed_stmt c.args.last.now) c.args.flow c.args.locals.now.items
