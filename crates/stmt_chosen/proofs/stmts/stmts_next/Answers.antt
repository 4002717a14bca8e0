use Rattle.std.proofs.Common.{◌∙◌}
use Rattle.form_meaning.specs.Forms.{FormTree}
use Rattle.class_checks.specs.Results.{after}
use Rattle.stmt_pending.specs.Below.check_frames.specs.Meant.{spec_here}
use Rattle.stmt_pending.specs.Below.stmt_scopes.specs.Standing.{stands_here}
use Rattle.stmt_chosen.proofs.Listed.{first_stmt, no_stmts_left}
use Rattle.stmt_chosen.proofs.stmts.stmts_next.Goals as goal

pub returns-in-empty : goal.returns-in-empty
returns-in-empty c =
    no_stmts_left (spec_here c.args.stands.here) (stands_here c.args.stands) c.args.stmts.now c.in-empty.len_below

pub returns-in_ok-in_place-in-len1-up-2 : goal.returns-in_ok-in_place-in-len1-up-2
returns-in_ok-in_place-in-len1-up-2 c =
    first_stmt (spec_here c.args.stands.here) (stands_here c.args.stands) c.args.stmts.now c.first-item.result c.in-len1-up.len_at_least c.first-item.is
    ∙ (λ i. after (c.in_ok-in_place-in-len1-up.ensures i) (λ (form : FormTree). c.in_ok-in_place-in-len1-up-2.ensures i))
