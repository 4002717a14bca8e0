use Rattle.type_reading.specs.Reading.{type_of}
use Rattle.expr_builder.proofs.Running.{read-end, read-on, read-refused}
use Rattle.expr_builder.proofs.build.read.Goals as goal

pub loop-token-preserved : goal.loop-token-preserved
loop-token-preserved c = read-on type_of _ _ _ c.loop-token.invariant _ _ _ c.in-Some.ensures.steps.0 (rw c.in-Some-2.is at c.in_ok-next.ensures)

pub returns-in_default : goal.returns-in_default
returns-in_default c = read-refused type_of _ _ _ c.loop-token.invariant _ _ _ _ c.in-Some.ensures.steps.0 c.in_default.not-Some c.in_ok-next.ensures
