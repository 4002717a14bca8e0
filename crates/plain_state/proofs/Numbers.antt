-- The greatest number of an object, with one entry more.
use Rattle.std.proofs.Common.{◌≡◌, ◌+◌, max, List, [], ◌∷◌, ◌++◌, arith}
use Rattle.run_journal.specs.declared.entry.Entry.{Entry}
use Rattle.vdm_legal.specs.Order.{above_all}

pub above-more : (entries : List Entry) (e : Entry) → above_all (entries ++ e ∷ []) ≡ max (above_all entries) (e.object + 1)
above-more [] e = omega arith
above-more (x ∷ entries) e = omega (arith, above-more entries e)
