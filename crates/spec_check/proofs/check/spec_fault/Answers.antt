use Rattle.std.proofs.Common.{Option, ap, ◌∙◌}
use Rattle.vdm_kinds.specs.declared.spec_fault.SpecFault.{SpecFault}
use Rattle.spec_checks.specs.Definitions.{spec_faults}
use Rattle.class_checks.specs.Results.{first_among}
use Rattle.sync_checks.specs.Below.spec_table.specs.Tables.{table_spec}
use Rattle.spec_check.proofs.check.spec_fault.Goals as goal

pub returns : goal.returns
returns c =
    c.first.ensures ∙ c.in_ok-refuse_spec.ensures
    ∙ ap (λ (o : Option SpecFault). first_among o (spec_faults (table_spec c.args.table.now))) c.new-refusals.ensures
