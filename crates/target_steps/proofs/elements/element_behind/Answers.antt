use Rattle.expr_tree.specs.View.{boxed_view}
use Rattle.stmt_exprs.specs.Below.check_operators.specs.Kinds.{form_of_kind}
use Rattle.stmt_exprs.specs.Below.check_scopes.specs.Told.{first_in}
use Rattle.stmt_exprs.specs.Below.check_frames.specs.Meant.{spec_here}
use Rattle.stmt_exprs.specs.Below.stmt_scopes.specs.Refused.{if_ok}
use Rattle.stmt_exprs.specs.Below.stmt_scopes.specs.Standing.{stands_here}
use Rattle.target_steps.proofs.Stepping.{element_told}
use Rattle.target_steps.proofs.elements.element_behind.Goals as goal

pub returns : goal.returns
returns c = λ step_place.
    if_ok c.looked_up.result c.looked_up.ensures (λ found is rest.
    element_told (spec_here c.args.stands.here) (stands_here c.args.stands) c.args.place c.args.form (boxed_view c.args.index.now) step_place
    (form_of_kind c.key_kind.result) found (first_in c.args.refusals.now) (first_in c.want_kind.new.refusals) (first_in c.refuse_wanting.new.refusals) rest
    c.want_kind.ensures c.key_kind.ensures c.in_ok-refuse_wanting.ensures is)
