use Rattle.std.proofs.Common.{◌≡◌, drop}
use Rattle.stmt_fronts.specs.Fronts.{deep_in_all}
use Rattle.stmt_front_reader.proofs.Counted.{counted, from_first}
use Rattle.stmt_front_reader.proofs.endings.deep_in_best.Given as goal

-- with the first place of those before, the rest comes to what all come to
abbrev pub invariant-loop-ending : goal.invariant-loop-ending
invariant-loop-ending l = from_first l.first (counted l.whole (drop l.ending-index l.endings)) ≡ deep_in_all (counted l.fn.whole l.fn.endings)
