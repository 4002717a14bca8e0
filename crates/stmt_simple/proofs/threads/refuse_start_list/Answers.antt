use Rattle.expr_tree.specs.View.{boxed_view}
use Rattle.stmt_targets.specs.Below.check_scopes.specs.Told.{first_in}
use Rattle.stmt_targets.specs.Below.check_frames.specs.Meant.{spec_here}
use Rattle.stmt_targets.specs.Below.stmt_scopes.specs.Refused.{refused_same}
use Rattle.stmt_targets.specs.Below.stmt_scopes.specs.Standing.{stands_here}
use Rattle.stmt_simple.proofs.Begun.{start_list_begun}
use Rattle.stmt_simple.proofs.threads.refuse_start_list.Goals as goal

pub returns : goal.returns
returns c = λ place.
    refused_same c.refuse_wanting.result (first_in c.args.refusals.now) (first_in c.refuse_wanting.new.refusals) _ _
    (start_list_begun (spec_here c.args.stands.here) (stands_here c.args.stands) (boxed_view c.args.objects.now) place)
    c.refuse_wanting.ensures
