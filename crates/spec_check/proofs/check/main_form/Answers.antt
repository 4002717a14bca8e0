use Rattle.std.proofs.Common.{◌≡◌, sym, ◌∙◌}
use Rattle.expr_tree.specs.View.{view_of}
use Rattle.class_checks.specs.WellTyped.{main_fault}
use Rattle.class_checks.specs.Expressions.{check}
use Rattle.class_checks.specs.Results.{first_fault}
use Rattle.sync_checks.specs.Below.check_scopes.specs.Told.{scope_view}
use Rattle.sync_checks.specs.Below.check_names.proofs.Notes.{if_ok}
use Rattle.sync_checks.specs.Below.spec_table.specs.Tables.{table_spec}
use Rattle.spec_check.specs.Fine.{checked_table}
use Rattle.spec_check.proofs.check.main_form.Goals as goal

pub returns : goal.returns
returns c =
    let spec = table_spec (checked_table c.args.checked.now) in
    let tree = view_of c.args.e.now in
    let there : main_fault spec tree ≡ first_fault (check (table_spec c.table.result.now) (scope_view c.of_run-scope.result) tree) =
    λ i. first_fault (check (table_spec (sym c.table.ensures.table i)) (sym c.of_run-scope.ensures i) tree) in
    record {
      well_typed = if_ok c.check_expr.result c.check_expr.ensures.well_typed (λ form is. there ∙ is);
      refused = λ fault e. there ∙ c.check_expr.ensures.refused fault e;
    }
