use Rattle.stmt_fronts.proofs.laws.one_longest_front.Goals as goal
use Rattle.stmt_fronts.proofs.Longest.{has_longest, one_longest, reached_longest, reached_whole}
use Rattle.stmt_fronts.proofs.Places.{deep_place}

pub returns : goal.returns
returns c = record { some = has_longest; one = one_longest; reached = reached_longest; whole = reached_whole; deep = deep_place }
