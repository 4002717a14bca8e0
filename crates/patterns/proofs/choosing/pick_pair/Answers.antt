use Rattle.std.proofs.Common.{arith, ◌<◌, length}
use Rattle.patterns.specs.Todos.{at}
use Rattle.patterns.proofs.Picked.{referred, length-at}
use Rattle.patterns.proofs.choosing.pick_pair.Goals as goal

pub returns-then-index-pairs : goal.returns-then-index-pairs
returns-then-index-pairs c =
    let h : c.args.index < length (at c.args.pairs.now) = omega (arith, length-at c.args.pairs.now) in
    (h, referred c.args.pairs.now c.args.index c.index-pairs-index.result c.index-pairs-index.is)
