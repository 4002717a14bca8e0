use Rattle.std.proofs.Common.{map, ◌∷◌, []}
use Rattle.abstract_syntax.specs.Statements.{LocalTree}
use Rattle.vdm_tree.specs.StmtView.{local_view}
use Rattle.class_checks.specs.Results.{Checked}
use Rattle.spec_checks.specs.Statements.{locals_in}
use Rattle.spec_checks.specs.Targets.{StmtScope}
use Rattle.stmt_scopes.specs.Below.check_scopes.specs.Told.{first_in}
use Rattle.stmt_scopes.specs.Below.check_frames.specs.Meant.{spec_here}
use Rattle.stmt_scopes.specs.InTurn.{turn_taken}
use Rattle.stmt_scopes.specs.Refused.{refused}
use Rattle.stmt_scopes.specs.Standing.{standing_of}
use Rattle.stmt_exprs.proofs.Onward.{locals_first}
use Rattle.stmt_exprs.proofs.declarations.behind_locals.Goals as goal

pub loop-local-preserved : goal.loop-local-preserved
loop-local-preserved c =
    let spec = spec_here c.args.stands.here in
    turn_taken local_view
    (λ (s : StmtScope) (l : LocalTree) (rest : StmtScope → Checked). locals_in spec s (l ∷ []) rest)
    (locals_in spec) (locals_first spec) c.args.locals.now c.loop-local.local-index c.local-item.result
    (standing_of c.args.stands c.loop-local.standing) (standing_of c.args.stands c.in_ok-standing.standing)
    (first_in c.loop-local.refusals) (first_in c.behind_local.new.refusals)
    (λ (rest : StmtScope → Checked). refused (first_in c.args.refusals.now) (locals_in spec (standing_of c.args.stands c.args.standing) (map local_view c.args.locals.now) rest))
    c.local-item.is c.loop-local-test.true c.in_ok-standing.ensures c.loop-local.invariant
