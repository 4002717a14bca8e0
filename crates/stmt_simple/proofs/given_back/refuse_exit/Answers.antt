use Rattle.std.proofs.Common.{Option, ap, sym, option_map, ◌∙◌}
use Rattle.std.specs.declared.alloc.Global.{Global}
use Rattle.std.specs.declared.boxed.Box.{Box}
use Rattle.abstract_syntax.specs.Statements.{exits}
use Rattle.expr_tree.specs.View.{boxed_view}
use Rattle.expr_tree.specs.declared.expr.Expr.{Expr}
use Rattle.class_checks.specs.Expressions.{check}
use Rattle.spec_checks.specs.Statements.{check_stmt}
use Rattle.stmt_targets.specs.Below.check_scopes.specs.Told.{first_in}
use Rattle.stmt_targets.specs.Below.check_frames.specs.Meant.{scope_here, spec_here}
use Rattle.stmt_targets.specs.Below.stmt_scopes.specs.Refused.{refused}
use Rattle.stmt_targets.specs.Below.stmt_scopes.specs.Standing.{stands_here}
use Rattle.stmt_simple.proofs.Begun.{exit_of_none}
use Rattle.stmt_simple.proofs.Noted.{exit_value, noted_same}
use Rattle.stmt_simple.proofs.given_back.refuse_exit.Goals as goal

abbrev Own : Type 0
Own = Box Expr Global

pub returns-in-Some : goal.returns-in-Some
returns-in-Some c = λ place.
    noted_same c.refuse_expr.result (first_in c.args.refusals.now) (first_in c.refuse_expr.new.refusals)
    (check_stmt (spec_here c.args.stands.here) (stands_here c.args.stands) (exits (option_map boxed_view c.args.value.now) place))
    (check (spec_here c.args.stands.here) (scope_here c.args.stands.here) (boxed_view c.in-Some.value))
    (ap (λ (o : Option Own). (check_stmt (spec_here c.args.stands.here) (stands_here c.args.stands) (exits (option_map boxed_view o) place)).refusals) c.in-Some.is
    ∙ exit_value (spec_here c.args.stands.here) (stands_here c.args.stands) _ place)
    c.refuse_expr.ensures

pub returns-in-None : goal.returns-in-None
returns-in-None c = λ place.
    ap (refused (first_in c.args.refusals.now))
    (sym (ap (λ (o : Option Own). check_stmt (spec_here c.args.stands.here) (stands_here c.args.stands) (exits (option_map boxed_view o) place)) c.in-None.is
    ∙ exit_of_none (spec_here c.args.stands.here) (stands_here c.args.stands) place))
