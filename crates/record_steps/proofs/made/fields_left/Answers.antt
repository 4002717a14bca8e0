use Rattle.std.proofs.Common.{◌∙◌}
use Rattle.spec_table.specs.Tables.{table_spec}
use Rattle.node_meaning.specs.Needs.{evaluator}
use Rattle.record_steps.proofs.made.fields_left.Goals as goal

pub returns-in-Stops : goal.returns-in-Stops
returns-in-Stops c = λ asker. (rw c.in-Stops.is at c.in_ok-next.ensures) asker ∙ c.loop-turn.invariant

pub loop-turn-preserved : goal.loop-turn-preserved
loop-turn-preserved c = (rw c.in-Fits.is at c.in_ok-next.ensures) evaluator ∙ c.loop-turn.invariant
