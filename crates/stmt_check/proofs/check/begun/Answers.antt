use Rattle.vdm_kinds.specs.declared.name.Name.{Name}
use Rattle.vdm_tree.specs.StmtView.{stmt_view}
use Rattle.spec_checks.specs.Statements.{check_stmt}
use Rattle.stmt_kinds.specs.Below.check_scopes.specs.Told.{scope_at, spec_in}
use Rattle.stmt_kinds.specs.Below.stmt_scopes.specs.Standing.{is_held, returned_view}
use Rattle.stmt_check.proofs.check.begun.Goals as goal

pub returns : goal.returns
returns c = λ returned.
    (λ i. check_stmt (spec_in c.args.here.setting)
    (record { within = scope_at c.args.here.setting (c.in_ok-copy.ensures i); declared = λ (name : Name). is_held (c.new.ensures i name); returned = returned_view returned })
    (stmt_view c.args.stmt.now))
