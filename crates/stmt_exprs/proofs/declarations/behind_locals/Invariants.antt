use Rattle.std.proofs.Common.{◌≡◌, map, drop}
use Rattle.vdm_tree.specs.StmtView.{local_view}
use Rattle.class_checks.specs.Results.{Checked}
use Rattle.spec_checks.specs.Statements.{locals_in}
use Rattle.spec_checks.specs.Targets.{StmtScope}
use Rattle.stmt_scopes.specs.Below.check_scopes.specs.Told.{first_in}
use Rattle.stmt_scopes.specs.Below.check_frames.specs.Meant.{spec_here}
use Rattle.stmt_scopes.specs.Refused.{refused}
use Rattle.stmt_scopes.specs.Standing.{standing_of}
use Rattle.stmt_exprs.proofs.declarations.behind_locals.Given as goal

abbrev pub invariant-loop-local : goal.invariant-loop-local
invariant-loop-local l =
    (rest : StmtScope → Checked)
    → refused (first_in l.refusals) (locals_in (spec_here l.stands.here) (standing_of l.stands l.standing) (map local_view (drop l.local-index l.locals)) rest)
    ≡ refused (first_in l.fn.refusals) (locals_in (spec_here l.stands.here) (standing_of l.stands l.initial.standing) (map local_view l.locals) rest)
