use Rattle.std.proofs.Common.{◌≡◌, drop}
use Rattle.grammar_fronts.specs.Fronts.{front_from}
use Rattle.front_reader.proofs.reader.read_on.Given as goal

-- behind what was read, what is found of the rest
abbrev pub invariant-loop-count : goal.invariant-loop-count
invariant-loop-count l =
    front_from l.count l.last (drop l.count l.words) l.reading.wanted l.reading.nodes
    ≡ front_from 0 l.fn.first l.fn.words l.fn.reading.wanted l.fn.reading.nodes
