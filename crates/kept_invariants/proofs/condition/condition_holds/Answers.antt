use Rattle.std.proofs.Common.{ap}
use Rattle.expr_tree.specs.View.{boxed_view, view_of}
use Rattle.expr_tree.specs.declared.expr.Expr.{Expr}
use Rattle.spec_table.specs.Tables.{table_spec}
use Rattle.kept_invariants.specs.Guarding.{holds_in}
use Rattle.kept_invariants.proofs.Verdicts.{same_verdict}
use Rattle.kept_invariants.proofs.condition.condition_holds.Goals as goal

pub returns : goal.returns
returns c =
    let spec = table_spec c.args.table.now in
    same_verdict c.expression_holds.result (holds_in spec c.args.env.now (view_of c.deref.result.now)) (holds_in spec c.args.env.now (boxed_view c.args.condition.now))
    (ap (λ (e : Expr). holds_in spec c.args.env.now (view_of e)) c.deref.ensures) c.expression_holds.ensures
