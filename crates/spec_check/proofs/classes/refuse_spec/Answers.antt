use Rattle.std.proofs.Common.{List, ◌-◌, take, drop, length, ap, sym, ◌∙◌}
use Rattle.std.specs.List.{flat_map}
use Rattle.std.proofs.lemmas.List.{take_rest}
use Rattle.vdm_kinds.specs.declared.name.Name.{Name}
use Rattle.spec_checks.specs.Definitions.{class_faults, spec_faults}
use Rattle.class_checks.specs.Results.{first_among}
use Rattle.sync_checks.specs.Below.check_scopes.specs.Told.{first_in}
use Rattle.sync_checks.specs.Below.check_steps.specs.Firsts.{none_left}
use Rattle.sync_checks.specs.Below.spec_table.specs.Tables.{table_spec}
use Rattle.spec_check.specs.Named.{faults_named}
use Rattle.spec_check.proofs.ByNames.{all_named}
use Rattle.spec_check.proofs.Noted.{on_same}
use Rattle.spec_check.proofs.classes.refuse_spec.Goals as goal

pub returns-in-len1-up : goal.returns-in-len1-up
returns-in-len1-up c =
    let spec = table_spec c.args.table.now in
    let names = c.classes.result.now in
    on_same c.refuse_classes.result (first_in c.args.refusals.now) (first_in c.refuse_classes.new.refusals)
    (flat_map (faults_named (class_faults spec) spec) (take (length names - 1) (drop 1 names))) (spec_faults spec)
    (ap (flat_map (faults_named (class_faults spec) spec)) (take_rest names 1)
    ∙ ap (λ (ns : List Name). flat_map (faults_named (class_faults spec) spec) (drop 1 ns)) c.classes.ensures
    ∙ all_named (class_faults spec) c.args.table.now)
    c.refuse_classes.ensures

pub returns-in-empty : goal.returns-in-empty
returns-in-empty c =
    let spec = table_spec c.args.table.now in
    ap (first_among (first_in c.args.refusals.now))
    (ap (λ (ns : List Name). flat_map (faults_named (class_faults spec) spec) (drop 1 ns)) (sym (none_left c.classes.result.now c.in-empty.len_below) ∙ c.classes.ensures)
    ∙ all_named (class_faults spec) c.args.table.now)
