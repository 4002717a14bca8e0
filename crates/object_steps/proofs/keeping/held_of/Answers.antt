use Rattle.std.proofs.Common.{arith}
use Rattle.object_steps.proofs.Slots.{slots_done, vars_done, one_more}
use Rattle.object_steps.proofs.keeping.held_of.Goals as goal

pub returns-in_default : goal.returns-in_default
returns-in_default c =
    slots_done c.args.variables.now c.loop-variable.variable-index c.loop-variable.left.now c.loop-variable.pairs.items _ c.loop-variable.invariant c.in_default.ensures.cases

pub loop-variable-preserved : goal.loop-variable-preserved
loop-variable-preserved c =
    one_more c.args.variables.now c.loop-variable.variable-index c.loop-variable.left.now c.loop-variable.pairs.items _ c.loop-variable.invariant
    _ c.in-Some.slot.now c.in_ok-copy.field-0 c.in-Some.others.now c.push.new.self.items c.loop-variable-test.true c.in-Some.ensures.cases.0 c.in_ok-copy.ensures c.in_ok-push.ensures.items

pub returns : goal.returns
returns c =
    vars_done c.args.variables.now c.loop-variable.variable-index c.loop-variable.left.now c.loop-variable.pairs.items _ c.loop-variable.invariant (omega (arith, c.loop-variable-test.false))
