use Rattle.std.proofs.Common.{◌≡◌, length}
use Rattle.stmt_front_reader.proofs.alive.Alive.let_go.Given as goal

abbrev pub invariant-loop-held : goal.invariant-loop-held
invariant-loop-held l = l.self.readings ≡ l.fn.self.readings

abbrev pub decreases-loop-held : goal.decreases-loop-held
decreases-loop-held l = length l.self.held.items
