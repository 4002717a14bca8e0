use Rattle.std.proofs.Common.{List, drop, ap, sym, ◌∙◌}
use Rattle.std.specs.List.{flat_map}
use Rattle.std.proofs.lemmas.List.{take_rest}
use Rattle.vdm_kinds.specs.declared.name.Name.{Name}
use Rattle.spec_checks.specs.Threads.{class_left_out}
use Rattle.class_checks.specs.Results.{first_among}
use Rattle.sync_checks.specs.Below.check_scopes.specs.Told.{first_in}
use Rattle.sync_checks.specs.Below.check_steps.specs.Firsts.{none_left}
use Rattle.sync_checks.specs.Below.spec_table.specs.Tables.{table_spec}
use Rattle.spec_check.specs.Named.{faults_named}
use Rattle.spec_check.proofs.ByNames.{all_named}
use Rattle.spec_check.proofs.left_out.refuse_left_out.Goals as goal

pub returns-in-len1-up : goal.returns-in-len1-up
returns-in-len1-up c =
    let spec = table_spec c.args.table.now in
    let names = c.classes.result.now in
    c.refuse_in_classes.ensures
    ∙ ap (first_among (first_in c.args.refusals.now))
    (ap (flat_map (faults_named class_left_out spec)) (take_rest names 1)
    ∙ ap (λ (ns : List Name). flat_map (faults_named class_left_out spec) (drop 1 ns)) c.classes.ensures
    ∙ all_named class_left_out c.args.table.now)

pub returns-in-empty : goal.returns-in-empty
returns-in-empty c =
    let spec = table_spec c.args.table.now in
    ap (first_among (first_in c.args.refusals.now))
    (ap (λ (ns : List Name). flat_map (faults_named class_left_out spec) (drop 1 ns)) (sym (none_left c.classes.result.now c.in-empty.len_below) ∙ c.classes.ensures)
    ∙ all_named class_left_out c.args.table.now)
