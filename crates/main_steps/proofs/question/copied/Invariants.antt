use Rattle.std.proofs.Common.{◌≡◌, ◌++◌, drop}
use Rattle.main_steps.proofs.question.copied.Given as goal

-- those so far, and what is still to be copied
abbrev pub invariant-loop-slot : goal.invariant-loop-slot
invariant-loop-slot l = l.copies.items ++ drop l.slot-index l.slots ≡ l.fn.slots
