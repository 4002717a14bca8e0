use Rattle.std.proofs.Common.{◌≡◌, length}
use Rattle.spec_table.specs.Tables.{table_spec}
use Rattle.step_data.specs.Callings.{initialisers}
use Rattle.object_steps.proofs.object.initialise.Given as goal

-- the initialisers of the rest do what those of the whole do
abbrev pub invariant-loop-var : goal.invariant-loop-var
invariant-loop-var l = record {
  same : initialisers (table_spec l.table) l.making.value ≡ initialisers (table_spec l.table) l.fn.making.value;
}

abbrev pub decreases-loop-var : goal.decreases-loop-var
decreases-loop-var l = length l.making.value.left.now
