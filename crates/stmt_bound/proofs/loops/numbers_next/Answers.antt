use Rattle.std.proofs.Common.{[], ◌∷◌, ap, option_map, ◌∙◌}
use Rattle.expr_tree.specs.View.{boxed_view}
use Rattle.vdm_tree.specs.StmtView.{boxed_stmt}
use Rattle.class_checks.specs.Operators.{number}
use Rattle.spec_checks.specs.Statements.{check_stmt, inside_names, maybe_wanting, wanting}
use Rattle.stmt_pending.specs.Below.check_scopes.specs.Told.{first_in}
use Rattle.stmt_pending.specs.Below.check_frames.specs.Meant.{spec_here}
use Rattle.stmt_pending.specs.Below.stmt_scopes.specs.Before.{before-maybe_wanting, refused_before}
use Rattle.stmt_pending.specs.Below.stmt_scopes.specs.Refused.{refused}
use Rattle.stmt_pending.specs.Below.stmt_scopes.specs.Standing.{standing_of, stands_here}
use Rattle.stmt_pending.specs.Parts.{refused_wanting}
use Rattle.stmt_pending.specs.Steps.{next_inside}
use Rattle.stmt_bound.proofs.Begun.{numbers_begun}
use Rattle.stmt_bound.proofs.loops.numbers_next.Goals as goal

pub returns : goal.returns
returns c = λ name_place place.
    let spec = spec_here c.args.stands.here in
    let scope = stands_here c.args.stands in
    let first = boxed_view c.args.first.now in
    let last = boxed_view c.args.last.now in
    let step = option_map boxed_view c.args.step.now in
    let body = boxed_stmt c.args.body.now in
    let one = first_in c.refuse_wanting.new.refusals in
    let two = first_in c.refuse_wanting-2.new.refusals in
    let later = first_in c.refuse_maybe.new.refusals in
    let inside = inside_names scope (record { name = c.args.name; form = number } ∷ []) (c.args.name ∷ []) in
    let rest = maybe_wanting spec scope number step (check_stmt spec inside body) in
    next_inside c.args.stands.here.setting c.args.stands.returned.now c.next_in.result inside (standing_of c.args.stands c.in_ok-inside.inside) body later _
    (ap (refused (first_in c.args.refusals.now)) (numbers_begun spec scope c.args.name name_place first last step body place)
    ∙ refused_wanting spec scope number first (first_in c.args.refusals.now) one (wanting spec scope number last rest) c.in_ok-refuse_wanting.ensures
    ∙ refused_wanting spec scope number last one two rest c.in_ok-refuse_wanting-2.ensures
    ∙ refused_before (maybe_wanting spec scope number step) (before-maybe_wanting spec scope number step) two later (check_stmt spec inside body) c.in_ok-refuse_maybe.ensures)
    c.in_ok-inside.ensures
    (c.next_in.ensures c.args.stands.here.setting c.args.stands.returned.now)
