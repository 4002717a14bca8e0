use Rattle.std.proofs.Common.{[]}
use Rattle.expr_tree.specs.View.{view_of}
use Rattle.spec_table.specs.Tables.{table_spec}
use Rattle.expr_eval.specs.Evaluations.{evaluation}
use Rattle.expr_eval.specs.Turns.{rest}
use Rattle.expr_eval.proofs.Turning.{pure_result}
use Rattle.expr_eval.proofs.pure.run_pure.Goals as goal

pub returns : goal.returns
returns c =
    pure_result c.in_ok-turn.turn (λ answers. rest c.in_ok-eval.eval answers c.args.fuel.now) (evaluation (table_spec c.args.table.now) c.args.env.now c.args.nest (view_of c.args.tree.now) [] c.args.fuel.now)
    c.advance.new.self c.advance.new.fuel c.outcome.result c.in_ok-turn.ensures.turned (c.in_ok-eval.ensures.0 [] c.args.fuel.now) c.outcome.ensures
