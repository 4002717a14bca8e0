use Rattle.std.proofs.Common.{ap}
use Rattle.vdm_tree.specs.StmtView.{boxed_stmt}
use Rattle.stmt_pending.specs.Below.check_scopes.specs.Told.{first_in}
use Rattle.stmt_pending.specs.Below.check_frames.specs.Meant.{spec_here}
use Rattle.stmt_pending.specs.Below.stmt_scopes.specs.Refused.{refused}
use Rattle.stmt_pending.specs.Below.stmt_scopes.specs.Standing.{standing_of, stands_here}
use Rattle.stmt_pending.specs.Steps.{next_inside, next_onward}
use Rattle.stmt_chosen.proofs.Listed.{first_handler, no_handlers_left}
use Rattle.stmt_chosen.proofs.handlers.handlers_next.Goals as goal

pub returns-in_ok-kept-in-empty : goal.returns-in_ok-kept-in-empty
returns-in_ok-kept-in-empty c =
    next_inside c.args.stands.here.setting c.args.stands.returned.now c.next_in.result (stands_here c.args.stands) (standing_of c.args.stands c.in_ok-kept-in-empty.field-0) (boxed_stmt c.args.body.now) (first_in c.args.refusals.now) _
    (ap (refused (first_in c.args.refusals.now)) (no_handlers_left (spec_here c.args.stands.here) (stands_here c.args.stands) c.args.handlers.now (boxed_stmt c.args.body.now) c.in-empty.len_below))
    c.in_ok-kept-in-empty.ensures
    (c.next_in.ensures c.args.stands.here.setting c.args.stands.returned.now)

pub returns-in-len1-up : goal.returns-in-len1-up
returns-in-len1-up c =
    next_onward c.args.stands.here.setting c.args.stands.returned.now c.handler_next.result (first_in c.args.refusals.now) (first_in c.handler_next.new.refusals) _ _
    (first_handler (spec_here c.args.stands.here) (stands_here c.args.stands) c.args.handlers.now c.handler-item.result (boxed_stmt c.args.body.now) c.in-len1-up.len_at_least c.handler-item.is)
    c.handler_next.ensures
