use Rattle.std.proofs.Common.{Option, ap, sym, option_map, ◌∙◌}
use Rattle.std.specs.declared.alloc.Global.{Global}
use Rattle.std.specs.declared.boxed.Box.{Box}
use Rattle.abstract_syntax.specs.Statements.{returns}
use Rattle.expr_tree.specs.View.{boxed_view}
use Rattle.expr_tree.specs.declared.expr.Expr.{Expr}
use Rattle.spec_checks.specs.Statements.{check_stmt}
use Rattle.stmt_targets.specs.Below.check_scopes.specs.Told.{first_in}
use Rattle.stmt_targets.specs.Below.check_frames.specs.Meant.{spec_here}
use Rattle.stmt_targets.specs.Below.stmt_scopes.specs.Refused.{refused}
use Rattle.stmt_targets.specs.Below.stmt_scopes.specs.Standing.{stands_here}
use Rattle.stmt_simple.proofs.Begun.{return_of_none}
use Rattle.stmt_simple.proofs.given_back.refuse_return.Goals as goal

abbrev Own : Type 0
Own = Box Expr Global

pub returns-in-None : goal.returns-in-None
returns-in-None c = λ place.
    ap (refused (first_in c.args.refusals.now))
    (sym (ap (λ (o : Option Own). check_stmt (spec_here c.args.stands.here) (stands_here c.args.stands) (returns (option_map boxed_view o) place)) c.in-None.is
    ∙ return_of_none (spec_here c.args.stands.here) (stands_here c.args.stands) place))
