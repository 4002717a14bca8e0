use Rattle.expr_tree.specs.View.{view_of}
use Rattle.spec_table.specs.Tables.{table_spec}
use Rattle.eval_data.specs.Parts.{here_of}
use Rattle.expr_eval.specs.Evaluations.{of_evaluator}
use Rattle.expr_eval.proofs.Running.{entered, entered-low, spent-low, spent_fails}
use Rattle.expr_eval.proofs.eval.Eval.enter.Goals as goal

pub returns-in-Some-clause-same : goal.returns-in-Some-clause-same
returns-in-Some-clause-same c =
    let e = c.args.self.now in
    entered (table_spec e.table.now) e.place e.frames.items c.push.new.self.items c.args.level (here_of c.args.here) e.locals.items _ (view_of c.args.tree.now) c.args.fuel.now c.in-Some.left
    c.of_node.result c.in-Some.ensures c.in_ok-push-in-Some.ensures.items c.of_node.ensures

pub returns-in-Some-clause-falls : goal.returns-in-Some-clause-falls
returns-in-Some-clause-falls c =
    entered-low c.args.self.now.frames.items c.push.new.self.items c.args.level c.args.fuel.now c.in-Some.left c.of_node.result c.in-Some.ensures c.in_ok-push-in-Some.ensures.items

pub returns-clause-same : goal.returns-clause-same
returns-clause-same c = λ answers.
    let e = c.args.self.now in
    spent_fails (table_spec e.table.now) e.place e.frames.items c.args.level (here_of c.args.here) e.locals.items (view_of c.args.tree.now) _ c.args.fuel.now answers c.in-None.ensures (c.spent.ensures.fails (of_evaluator (table_spec e.table.now)) e.locals.items)

pub returns-clause-falls : goal.returns-clause-falls
returns-clause-falls c = spent-low c.args.self.now.frames.items c.args.fuel.now _ c.spent.ensures.low
