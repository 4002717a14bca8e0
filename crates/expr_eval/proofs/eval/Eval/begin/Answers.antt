use Rattle.expr_tree.specs.View.{view_of}
use Rattle.spec_table.specs.Tables.{table_spec}
use Rattle.eval_data.specs.Parts.{here_of}
use Rattle.expr_eval.specs.Evaluations.{of_evaluator}
use Rattle.expr_eval.proofs.Running.{begun, begun-low, spent-low, spent_becomes}
use Rattle.expr_eval.proofs.eval.Eval.begin.Goals as goal

pub returns-in-Some-clause-same : goal.returns-in-Some-clause-same
returns-in-Some-clause-same c =
    let e = c.args.self.now in
    begun (table_spec e.table.now) e.place e.frames.items (here_of c.args.here) e.locals.items _ (view_of c.args.tree.now) c.args.fuel.now c.in-Some.left c.of_node.result c.in-Some.ensures c.of_node.ensures

pub returns-in-Some-clause-falls : goal.returns-in-Some-clause-falls
returns-in-Some-clause-falls c = begun-low c.args.self.now.frames.items c.args.fuel.now c.in-Some.left c.of_node.result c.in-Some.ensures

pub returns-in-None-clause-same : goal.returns-in-None-clause-same
returns-in-None-clause-same c = λ answers.
    let e = c.args.self.now in
    spent_becomes (table_spec e.table.now) e.place e.frames.items (here_of c.args.here) e.locals.items (view_of c.args.tree.now) _ c.args.fuel.now answers c.in-None.ensures (c.spent.ensures.fails (of_evaluator (table_spec e.table.now)) e.locals.items)

pub returns-in-None-clause-falls : goal.returns-in-None-clause-falls
returns-in-None-clause-falls c = spent-low c.args.self.now.frames.items c.args.fuel.now _ c.spent.ensures.low
