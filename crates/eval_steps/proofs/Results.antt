-- Results, and the map of no pairs.
use Rattle.std.proofs.Common.{[], Result, Ok, Err, IfOk}
use Rattle.std.specs.List.Sorted.{IsStrictlySortedBy}
use Rattle.abstract_syntax.specs.ValueSets.{key_order}

-- what follows of the value of a result
pub if_ok : {A E : Type 0} {P Q : A → Type 0} (r : Result A E) → IfOk r P → ((a : A) → P a → Q a) → IfOk r Q
if_ok (Ok a) p q = q a p
if_ok (Err e) p q = tt

pub nothing_rises : IsStrictlySortedBy key_order []
unfolding IsStrictlySortedBy
nothing_rises = tt
