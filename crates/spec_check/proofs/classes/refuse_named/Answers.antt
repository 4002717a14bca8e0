use Rattle.std.proofs.Common.{ℕ, Option, ap, sym, ◌∙◌}
use Rattle.std.specs.Option.{option_and_then}
use Rattle.class_meaning.specs.Classes.{class_at}
use Rattle.spec_checks.specs.Definitions.{class_faults}
use Rattle.sync_checks.specs.Below.check_scopes.specs.Told.{first_in}
use Rattle.sync_checks.specs.Below.spec_table.specs.Tables.{table_spec}
use Rattle.vdm_tree.specs.ClassView.{class_view}
use Rattle.spec_check.specs.Named.{faults_named, faults_of_some}
use Rattle.spec_check.proofs.Noted.{on_same}
use Rattle.spec_check.proofs.classes.refuse_named.Goals as goal

pub returns-in-Some : goal.returns-in-Some
returns-in-Some c =
    let spec = table_spec c.args.table.now in
    on_same c.refuse_class.result (first_in c.args.refusals.now) (first_in c.refuse_class.new.refusals)
    (class_faults spec (class_view c.class.result.now)) (faults_named (class_faults spec) spec c.args.name)
    (sym (ap (λ (k : Option ℕ). faults_of_some (class_faults spec) (option_and_then (class_at spec) k)) (sym c.in-Some.ensures)
    ∙ ap (faults_of_some (class_faults spec)) (c.class.ensures c.in-Some.field-0 (sym c.in-Some.ensures))))
    c.refuse_class.ensures
