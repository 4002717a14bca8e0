use Rattle.std.proofs.Common.{option_map}
use Rattle.type_tree.specs.TypeView.{type_view}
use Rattle.vdm_tree.specs.StmtView.{stmt_view}
use Rattle.spec_checks.specs.Definitions.{returned_of}
use Rattle.spec_checks.specs.Statements.{check_stmt}
use Rattle.spec_checks.specs.Targets.{nothing_declared}
use Rattle.part_checks.specs.Below.check_scopes.specs.Told.{first_in, types_in}
use Rattle.part_checks.specs.Below.check_frames.specs.Meant.{scope_here, spec_here}
use Rattle.stmt_check.specs.Below.stmt_scopes.specs.Standing.{returned_view}
use Rattle.part_checks.specs.Behind.{on_same}
use Rattle.definition_checks.proofs.operations.refuse_written.Goals as goal

pub returns : goal.returns
returns c =
    on_same c.refuse_stmt.result (first_in c.args.refusals.now) (first_in c.refuse_stmt.new.refusals)
    (check_stmt (spec_here c.args.here) (record {
      within = scope_here c.args.here;
      declared = nothing_declared;
      returned = returned_view c.in_ok-returned.returned;
    }) (stmt_view c.deref.result.now)).refusals
    (check_stmt (spec_here c.args.here) (record {
      within = scope_here c.args.here;
      declared = nothing_declared;
      returned = returned_of (spec_here c.args.here) (types_in c.args.here.setting) (option_map type_view c.args.declared.now);
    }) (stmt_view c.args.body.now.value)).refusals
    (λ i. (check_stmt (spec_here c.args.here) (record {
      within = scope_here c.args.here;
      declared = nothing_declared;
      returned = c.in_ok-returned.ensures i;
    }) (stmt_view (c.deref.ensures i))).refusals)
    c.refuse_stmt.ensures
