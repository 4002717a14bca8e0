use Rattle.expr_tree.specs.View.{view_of}
use Rattle.spec_checks.specs.Statements.{returned_faults}
use Rattle.stmt_targets.specs.Below.check_scopes.specs.Told.{first_in}
use Rattle.stmt_targets.specs.Below.check_frames.specs.Meant.{spec_here}
use Rattle.stmt_targets.specs.Below.stmt_scopes.specs.Standing.{returned_view, stands_here}
use Rattle.stmt_simple.proofs.Begun.{return_begun}
use Rattle.stmt_simple.proofs.Noted.{noted_value}
use Rattle.stmt_simple.proofs.given_back.refuse_return_of.Goals as goal

pub returns : goal.returns
returns c = λ place.
    noted_value (spec_here c.args.stands.here) (stands_here c.args.stands) (returned_faults (spec_here c.args.stands.here) (returned_view c.args.stands.returned.now))
    c.args.value.now.value c.deref.result.now c.place_of-place.result c.in_ok-form.form
    (first_in c.args.refusals.now) (first_in c.form_here.new.refusals) (first_in c.refuse_given_back.new.refusals) _
    c.deref.ensures c.place_of-place.ensures c.in_ok-form.ensures c.refuse_given_back.ensures
    (return_begun (spec_here c.args.stands.here) (stands_here c.args.stands) (view_of c.args.value.now.value) place)
