use Rattle.std.proofs.Common.{sym, ◌∙◌}
use Rattle.expr_tree.specs.View.{view_of}
use Rattle.check_called.proofs.Called.{other_begun}
use Rattle.check_called.proofs.head.expr_head.Goals as goal

pub returns-else-is_by_name : goal.returns-else-is_by_name
returns-else-is_by_name c =
    λ spec scope whole n place arguments. other_begun spec scope (view_of c.args.expr.now) whole n place arguments (sym c.is_by_name.ensures ∙ c.if-is_by_name.false)
