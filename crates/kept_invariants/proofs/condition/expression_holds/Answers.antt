use Rattle.std.proofs.Common.{[]}
use Rattle.expr_tree.specs.View.{view_of}
use Rattle.spec_table.specs.Tables.{table_spec}
use Rattle.stmt_meaning.specs.Keeping.{guard_units}
use Rattle.expr_eval.specs.Evaluations.{evaluation}
use Rattle.expr_eval.specs.Turns.{rest}
use Rattle.kept_invariants.proofs.Verdicts.{kept_now}
use Rattle.kept_invariants.proofs.condition.expression_holds.Goals as goal

pub returns : goal.returns
returns c =
    kept_now c.in_ok-turn.turn (λ answers. rest c.in_ok-eval.eval answers guard_units)
    (evaluation (table_spec c.args.table.now) c.args.env.now 0 (view_of c.args.condition.now) [] guard_units)
    c.advance.new.self c.advance.new.fuel c.is_kept.result c.in_ok-turn.ensures.turned (c.in_ok-eval.ensures.0 [] guard_units) c.is_kept.ensures
