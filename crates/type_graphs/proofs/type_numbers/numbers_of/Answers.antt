use Rattle.std.specs.HashMap.{get}
use Rattle.type_graphs.specs.Numbers.{same_pair}
use Rattle.type_graphs.proofs.Numbering.{all_numbered}
use Rattle.type_graphs.proofs.type_numbers.numbers_of.Goals as goal

pub returns : goal.returns
returns c = λ class name.
    all_numbered class name c.args.definitions.now c.loop-number.number (get same_pair c.loop-number.numbers (class.0, name.0))
    c.loop-number-test.false (c.loop-number.invariant class name)
