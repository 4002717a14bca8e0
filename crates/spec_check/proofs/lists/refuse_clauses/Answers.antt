use Rattle.std.proofs.Common.{arith}
use Rattle.vdm_tree.specs.ClassView.{sync_view}
use Rattle.spec_checks.specs.Definitions.{sync_faults}
use Rattle.sync_checks.specs.Below.check_scopes.specs.Told.{first_in}
use Rattle.sync_checks.specs.Below.definition_scopes.specs.Standing.{spec_at}
use Rattle.spec_check.proofs.Turns.{turn, ended}
use Rattle.spec_check.proofs.lists.refuse_clauses.Goals as goal

pub loop-clause-preserved : goal.loop-clause-preserved
loop-clause-preserved c =
    turn (sync_faults (spec_at c.args.site) c.args.site.class) sync_view c.args.clauses.now c.loop-clause.clause-index c.clause-item.result
    (first_in c.loop-clause.refusals) (first_in c.refuse_clause.new.refusals) _ c.clause-item.is c.loop-clause-test.true c.in_ok-refuse_clause.ensures c.loop-clause.invariant

pub returns : goal.returns
returns c =
    ended (sync_faults (spec_at c.args.site) c.args.site.class) sync_view c.args.clauses.now c.loop-clause.clause-index (first_in c.loop-clause.refusals) _
    (omega (arith, c.loop-clause-test.false)) c.loop-clause.invariant
