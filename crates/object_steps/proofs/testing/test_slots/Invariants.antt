use Rattle.std.proofs.Common.{◌≡◌}
use Rattle.spec_table.specs.Tables.{table_spec}
use Rattle.step_data.specs.Callings.{slots_left}
use Rattle.object_steps.proofs.testing.test_slots.Given as goal

-- the slots that are left do what those of the whole do
abbrev pub invariant-loop-index : goal.invariant-loop-index
invariant-loop-index l = record {
  same : slots_left (table_spec l.table) l.making.value l.index l.locals.items ≡ slots_left (table_spec l.table) l.making.value l.tested l.fn.locals.items;
}
