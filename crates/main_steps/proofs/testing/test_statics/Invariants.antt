use Rattle.std.proofs.Common.{◌≡◌}
use Rattle.spec_table.specs.Tables.{table_spec}
use Rattle.step_data.specs.Callings.{statics_tested}
use Rattle.main_steps.proofs.testing.test_statics.Given as goal

-- the slots that are left do what those of the whole do
abbrev pub invariant-loop-index : goal.invariant-loop-index
invariant-loop-index l = record {
  same : statics_tested (table_spec l.table) l.making.value l.index ≡ statics_tested (table_spec l.table) l.making.value l.tested;
}
