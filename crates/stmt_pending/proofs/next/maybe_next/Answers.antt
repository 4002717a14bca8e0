use Rattle.std.proofs.Common.{Option, ap, sym, ◌∙◌}
use Rattle.std.specs.declared.alloc.Global.{Global}
use Rattle.std.specs.declared.boxed.Box.{Box}
use Rattle.vdm_tree.specs.StmtView.{boxed_stmt, maybe_stmt}
use Rattle.vdm_tree.specs.declared.stmt.Stmt.{Stmt}
use Rattle.class_checks.specs.Results.{Checked}
use Rattle.spec_checks.specs.Statements.{check_stmt}
use Rattle.spec_checks.specs.Targets.{StmtScope}
use Rattle.stmt_scopes.specs.Below.check_frames.specs.Meant.{spec_here}
use Rattle.stmt_scopes.specs.Standing.{stands_here}
use Rattle.stmt_pending.specs.Meant.{last_check}
use Rattle.stmt_pending.proofs.Last.{last_given, last_none}
use Rattle.stmt_pending.proofs.next.maybe_next.Goals as goal

abbrev Own : Type 0
Own = Box Stmt Global

pub returns-in_ok-kept-in-Some : goal.returns-in_ok-kept-in-Some
returns-in_ok-kept-in-Some c =
    ap (λ (o : Option Own). (last_check (spec_here c.args.stands.here) (stands_here c.args.stands) (maybe_stmt o)).refusals) c.in-Some.is
    ∙ last_given (spec_here c.args.stands.here) (stands_here c.args.stands) (boxed_stmt c.in-Some.stmt)
    ∙ ap (λ (s : StmtScope). (check_stmt (spec_here c.args.stands.here) s (boxed_stmt c.in-Some.stmt)).refusals) (sym c.in_ok-kept-in-Some.ensures)
    ∙ ap (λ (k : Checked). k.refusals) (sym (c.next_in.ensures c.args.stands.here.setting c.args.stands.returned.now))

pub returns-in-None : goal.returns-in-None
returns-in-None c =
    ap (λ (o : Option Own). (last_check (spec_here c.args.stands.here) (stands_here c.args.stands) (maybe_stmt o)).refusals) c.in-None.is
    ∙ last_none (spec_here c.args.stands.here) (stands_here c.args.stands)
