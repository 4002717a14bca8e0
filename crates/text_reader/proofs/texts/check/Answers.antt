use Rattle.std.proofs.Common.{◌≡◌, Some, None, refl, ap, sym, ◌∙◌}
use Rattle.vdm_kinds.specs.declared.halt.Halt.TheVariants.{Of}
use Rattle.expr_tree.specs.View.{view_of}
use Rattle.spec_check.specs.Fine.{checked_table}
use Rattle.spec_check.specs.Below.spec_table.specs.Tables.{table_spec}
use Rattle.text_phases.specs.Built.{unbuilt_fault}
use Rattle.text_phases.proofs.Steps.{by_main, by_forms}
use Rattle.text_reader.proofs.Reading.{handed_on}
use Rattle.text_reader.proofs.texts.check.Goals as goal

pub returns-in-Some-clause-refused : goal.returns-in-Some-clause-refused
returns-in-Some-clause-refused c = λ fault e.
    let spec = table_spec (checked_table c.args.checked.now) in
    let tree = view_of c.args.parsed in
    let found : unbuilt_fault spec tree ≡ Some fault =
    ap (unbuilt_fault spec) (sym c.in-Ok.ensures.expr) ∙ (sym c.fault_of.ensures ∙ (c.in-Some.is ∙ (cc))) in
    by_forms spec tree (Some fault) c.in-Ok.ensures.well_typed found

pub returns-in-None-clause-fine : goal.returns-in-None-clause-fine
returns-in-None-clause-fine c =
    let spec = table_spec (checked_table c.args.checked.now) in
    let tree = view_of c.args.parsed in
    let found : unbuilt_fault spec tree ≡ None =
    ap (unbuilt_fault spec) (sym c.in-Ok.ensures.expr) ∙ (sym c.fault_of.ensures ∙ c.in-None.is) in
    by_forms spec tree None c.in-Ok.ensures.well_typed found

pub returns-in-Err-clause-refused : goal.returns-in-Err-clause-refused
returns-in-Err-clause-refused c = λ fault e.
    by_main (table_spec (checked_table c.args.checked.now)) (view_of c.args.parsed) fault
    (c.in-Err.ensures.refused fault (handed_on c.in-Err.halt (Of fault) _ _ refl refl e))
