use Rattle.std.proofs.Common.{Option, ap, option_map, sym, ◌∙◌, Box, Global}
use Rattle.expr_tree.specs.View.{boxed_view}
use Rattle.expr_tree.specs.declared.expr.Expr.{Expr}
use Rattle.class_checks.specs.Expressions.{where_true}
use Rattle.spec_checks.specs.Statements.{done, maybe_of}
use Rattle.stmt_scopes.specs.Below.check_scopes.specs.Told.{first_in}
use Rattle.stmt_scopes.specs.Below.check_frames.specs.Meant.{scope_here, spec_here}
use Rattle.stmt_scopes.specs.Refused.{refused}
use Rattle.stmt_exprs.proofs.Wanted.{no_condition}
use Rattle.stmt_exprs.proofs.wanting.refuse_condition.Goals as goal

pub returns-in-None : goal.returns-in-None
returns-in-None c =
    sym (ap (λ (o : Option (Box Expr Global)). refused (first_in c.args.refusals.now) (where_true (spec_here c.args.here) (scope_here c.args.here) (maybe_of (option_map boxed_view o)) done)) c.in-None.is
    ∙ ap (refused (first_in c.args.refusals.now)) (no_condition (spec_here c.args.here) (scope_here c.args.here) done))
