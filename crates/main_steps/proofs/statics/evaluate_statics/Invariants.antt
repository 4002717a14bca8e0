use Rattle.std.proofs.Common.{◌≡◌, length}
use Rattle.spec_table.specs.Tables.{table_spec}
use Rattle.step_data.specs.Callings.{statics_left}
use Rattle.main_steps.proofs.statics.evaluate_statics.Given as goal

-- the initialisers of the rest do what those of the whole do, for the same class object
abbrev pub invariant-loop-var : goal.invariant-loop-var
invariant-loop-var l = record {
  same : statics_left (table_spec l.table) l.making ≡ statics_left (table_spec l.table) l.fn.making;
  numbered : l.making.object ≡ l.fn.making.object;
}

abbrev pub decreases-loop-var : goal.decreases-loop-var
decreases-loop-var l = length l.making.left.now
