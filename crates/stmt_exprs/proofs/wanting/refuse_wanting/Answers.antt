use Rattle.expr_tree.specs.View.{boxed_view}
use Rattle.stmt_scopes.specs.Below.check_operators.specs.Kinds.{form_of_kind}
use Rattle.stmt_scopes.specs.Below.check_scopes.specs.Told.{first_in}
use Rattle.stmt_scopes.specs.Below.check_frames.specs.Meant.{scope_here, spec_here}
use Rattle.stmt_exprs.proofs.Wanted.{wanted_told}
use Rattle.stmt_exprs.proofs.wanting.refuse_wanting.Goals as goal

pub returns : goal.returns
returns c =
    wanted_told (spec_here c.args.stands.here) (scope_here c.args.stands.here) (form_of_kind c.args.kind) (boxed_view c.args.expr.now) c.place_of.result
    c.in_ok-form.form (first_in c.args.refusals.now) (first_in c.expr_form.new.refusals) (first_in c.want_kind.new.refusals)
    c.in_ok-form.ensures c.place_of.ensures c.want_kind.ensures
