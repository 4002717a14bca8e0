use Rattle.std.proofs.Common.{arith, ◌<◌, length}
use Rattle.patterns.specs.Todos.{at}
use Rattle.patterns.proofs.Picked.{referred, length-at}
use Rattle.patterns.proofs.choosing.pick.Goals as goal

pub returns-then-index-values : goal.returns-then-index-values
returns-then-index-values c =
    let h : c.args.index < length (at c.args.values.now) = omega (arith, length-at c.args.values.now) in
    (h, referred c.args.values.now c.args.index c.index-values-index.result c.index-values-index.is)
