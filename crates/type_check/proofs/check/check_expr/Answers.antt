use Rattle.std.proofs.Common.{Option, ap, sym, ◌∙◌}
use Rattle.vdm_kinds.specs.declared.spec_fault.SpecFault.{SpecFault}
use Rattle.expr_tree.specs.View.{view_of}
use Rattle.class_checks.specs.Expressions.{check}
use Rattle.class_checks.specs.Results.{first_among}
use Rattle.check_named.specs.Below.check_scopes.specs.Told.{Told, scope_view}
use Rattle.type_check.proofs.Faults.{fault_in}
use Rattle.check_named.specs.Below.spec_table.specs.Tables.{table_spec}
use Rattle.type_check.proofs.check.check_expr.Goals as goal

pub returns-in-Some : goal.returns-in-Some
returns-in-Some c =
    record {
      form = tt;
      well_typed = tt;
      refused = λ fault e. ap (λ (o : Option SpecFault). first_among o (check (table_spec c.args.table.now) (scope_view c.args.scope.now) (view_of c.args.expr.now)).refusals) (sym c.new-refusals.ensures) ∙ ap (λ (t : Told). t.first) c.in_ok-form.ensures ∙ sym c.in-Some.ensures ∙ ap fault_in e;
    }

pub returns-in-None : goal.returns-in-None
returns-in-None c =
    record {
      form = sym (ap (λ (t : Told). t.form) c.in_ok-form.ensures);
      well_typed = ap (λ (o : Option SpecFault). first_among o (check (table_spec c.args.table.now) (scope_view c.args.scope.now) (view_of c.args.expr.now)).refusals) (sym c.new-refusals.ensures) ∙ ap (λ (t : Told). t.first) c.in_ok-form.ensures ∙ sym c.in-None.ensures;
      refused = λ fault e. ap (λ (o : Option SpecFault). first_among o (check (table_spec c.args.table.now) (scope_view c.args.scope.now) (view_of c.args.expr.now)).refusals) (sym c.new-refusals.ensures) ∙ ap (λ (t : Told). t.first) c.in_ok-form.ensures ∙ sym c.in-None.ensures ∙ ap fault_in e;
    }
