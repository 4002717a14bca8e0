use Rattle.std.proofs.Common.{List, ap, map, sym, ◌∙◌}
use Rattle.vdm_tree.specs.StmtView.{dcl_view, stmt_trees, stmt_views}
use Rattle.vdm_tree.specs.declared.dcl.Dcl.{Dcl}
use Rattle.vdm_tree.specs.declared.stmt.Stmt.{Stmt}
use Rattle.spec_checks.specs.Statements.{check_stmts, dcls_in}
use Rattle.spec_checks.specs.Targets.{StmtScope}
use Rattle.stmt_pending.specs.Below.check_scopes.specs.Told.{first_in}
use Rattle.stmt_pending.specs.Below.check_frames.specs.Meant.{spec_here}
use Rattle.stmt_pending.specs.Below.stmt_scopes.specs.Refused.{refused}
use Rattle.stmt_pending.specs.Below.stmt_scopes.specs.Standing.{standing_of, stands_here}
use Rattle.stmt_bound.proofs.Begun.{block_begun}
use Rattle.stmt_bound.proofs.bound.block_next.Goals as goal

pub returns : goal.returns
returns c = λ place.
    let later = first_in c.behind_declarations.new.refusals in
    ap (refused (first_in c.args.refusals.now)) (block_begun (spec_here c.args.stands.here) (stands_here c.args.stands) (map dcl_view c.args.locals.now.items) (stmt_trees (stmt_views c.args.stmts.now.items)) place)
    ∙ ap (λ (ds : List Dcl). refused (first_in c.args.refusals.now) (dcls_in (spec_here c.args.stands.here) (stands_here c.args.stands) (map dcl_view ds)
    (λ (within : StmtScope). check_stmts (spec_here c.args.stands.here) within (stmt_trees (stmt_views c.args.stmts.now.items))))) (sym c.as_slice.ensures.value)
    ∙ c.in_ok-standing.ensures (λ (within : StmtScope). check_stmts (spec_here c.args.stands.here) within (stmt_trees (stmt_views c.args.stmts.now.items)))
    ∙ ap (λ (ss : List Stmt). refused later (check_stmts (spec_here c.args.stands.here) (standing_of c.args.stands c.in_ok-standing.standing) (stmt_trees (stmt_views ss)))) (sym c.as_slice-2.ensures.value)
