use Rattle.std.proofs.Common.{ap, ◌∙◌}
use Rattle.vdm_kinds.specs.declared.access.Level.TheVariants.{Private}
use Rattle.class_meaning.specs.Calls.{is_visible}
use Rattle.spec_table.specs.Tables.{table_spec}
use Rattle.spec_table.proofs.table.ClassTable.is_within.Goals as goal

pub returns : goal.returns
returns c =
    λ o e. c.is_owner.ensures (table_spec c.args.self.now) o (c.number.ensures ∙ e)
    ∙ ap (λ k. is_visible (table_spec c.args.self.now) k o Private) c.number_of.ensures
