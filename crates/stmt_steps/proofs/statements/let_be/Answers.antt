use Rattle.expr_tree.specs.View.{bind_view}
use Rattle.stmt_steps.proofs.Finding.{let_be-is}
use Rattle.stmt_steps.proofs.statements.let_be.Goals as goal

pub returns-clause-same : goal.returns-clause-same
returns-clause-same c =
    let_be-is c.fit.result c.args.here c.deref.result c.in_ok-set.set.now c.in_ok-set.frame c.args.body c.args.count c.args.place (bind_view c.args.bind.now.value)
    c.args.condition.now c.fit.ensures.same c.deref.ensures c.in_ok-set.ensures
