use Rattle.std.proofs.Common.{◌≡◌, map, drop}
use Rattle.stmt_fronts.specs.Fronts.{bare, front_from}
use Rattle.stmt_front_reader.specs.Held.{alive_views}
use Rattle.stmt_front_reader.proofs.reader.words_on.Given as goal

-- behind what was read, what is found of the rest
abbrev pub invariant-loop-count : goal.invariant-loop-count
invariant-loop-count l =
    front_from l.count (map bare (drop l.count l.words)) (alive_views l.alive)
    ≡ front_from 0 (map bare l.fn.words) (alive_views l.fn.alive)
