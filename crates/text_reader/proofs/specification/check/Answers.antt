use Rattle.std.proofs.Common.{refl}
use Rattle.vdm_kinds.specs.declared.halt.Halt.TheVariants.{Of}
use Rattle.vdm_tree.specs.ClassView.{spec_view}
use Rattle.spec_check.specs.Below.spec_table.specs.Tables.{table_spec}
use Rattle.text_phases.proofs.Steps.{by_table}
use Rattle.text_reader.proofs.Reading.{fine_checked, refused_checked, handed_on}
use Rattle.text_reader.proofs.specification.check.Goals as goal

pub returns-in-Ok-clause-fine : goal.returns-in-Ok-clause-fine
returns-in-Ok-clause-fine c =
    fine_checked c.check_spec.result (table_spec c.in-Ok.table) (spec_view c.args.spec) c.in-Ok.ensures.ok.0 c.in-Ok.ensures.ok.2 c.check_spec.ensures.well_typed

pub returns-in-Ok-clause-refused : goal.returns-in-Ok-clause-refused
returns-in-Ok-clause-refused c =
    refused_checked c.check_spec.result (table_spec c.in-Ok.table) (spec_view c.args.spec) c.in-Ok.ensures.ok.0 c.in-Ok.ensures.ok.2 c.check_spec.ensures.refused

pub returns-in-Err-clause-refused : goal.returns-in-Err-clause-refused
returns-in-Err-clause-refused c = λ fault e.
    by_table (spec_view c.args.spec) fault (c.in-Err.ensures.refused fault (handed_on c.in-Err.halt (Of fault) _ _ refl refl e))
