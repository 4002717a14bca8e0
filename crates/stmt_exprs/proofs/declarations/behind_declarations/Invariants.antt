use Rattle.std.proofs.Common.{◌≡◌, map, drop}
use Rattle.vdm_tree.specs.StmtView.{dcl_view}
use Rattle.class_checks.specs.Results.{Checked}
use Rattle.spec_checks.specs.Statements.{dcls_in}
use Rattle.spec_checks.specs.Targets.{StmtScope}
use Rattle.stmt_scopes.specs.Below.check_scopes.specs.Told.{first_in}
use Rattle.stmt_scopes.specs.Below.check_frames.specs.Meant.{spec_here}
use Rattle.stmt_scopes.specs.Refused.{refused}
use Rattle.stmt_scopes.specs.Standing.{standing_of, stands_here}
use Rattle.stmt_exprs.proofs.declarations.behind_declarations.Given as goal

abbrev pub invariant-loop-declaration : goal.invariant-loop-declaration
invariant-loop-declaration l =
    (rest : StmtScope → Checked)
    → refused (first_in l.refusals) (dcls_in (spec_here l.stands.here) (standing_of l.stands l.standing) (map dcl_view (drop l.declaration-index l.declarations)) rest)
    ≡ refused (first_in l.fn.refusals) (dcls_in (spec_here l.stands.here) (stands_here l.stands) (map dcl_view l.declarations) rest)
