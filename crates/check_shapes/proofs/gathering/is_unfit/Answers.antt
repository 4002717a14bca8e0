use Rattle.std.proofs.Common.{arith}
use Rattle.class_checks.specs.Operators.{is_source}
use Rattle.check_operators.specs.Sources.{source_of}
use Rattle.check_shapes.proofs.Gathered.{unfit_end, unfit_here, unfit_step}
use Rattle.check_shapes.proofs.gathering.is_unfit.Goals as goal

pub returns-then-is_unfit_at : goal.returns-then-is_unfit_at
returns-then-is_unfit_at c =
    unfit_here (is_source (source_of c.args.source)) c.args.done.now c.loop-i.i c.index-done-i.result _
    c.index-done-i.is c.loop-i-test.true c.if-is_unfit_at.ensures c.loop-i.invariant

pub loop-i-preserved : goal.loop-i-preserved
loop-i-preserved c =
    unfit_step (is_source (source_of c.args.source)) c.args.done.now c.loop-i.i c.index-done-i.result _
    c.index-done-i.is c.loop-i-test.true c.if-is_unfit_at.ensures c.loop-i.invariant

pub returns : goal.returns
returns c =
    unfit_end (is_source (source_of c.args.source)) c.args.done.now c.loop-i.i _
    (omega (arith, c.loop-i-test.false)) c.loop-i.invariant
