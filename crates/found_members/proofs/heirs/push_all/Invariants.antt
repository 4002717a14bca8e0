use Rattle.std.proofs.Common.{◌≡◌, ◌++◌, take}
use Rattle.found_members.proofs.heirs.push_all.Given as goal

-- those so far are pushed
abbrev pub invariant-loop-way : goal.invariant-loop-way
invariant-loop-way l = l.ways.items ≡ l.fn.ways.items ++ take l.way-index l.more
