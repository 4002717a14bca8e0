-- What follows of the value of a result.
use Rattle.std.proofs.Common.{Result, Ok, Err, IfOk}

pub if_ok : {A E : Type 0} {P Q : A → Type 0} (r : Result A E) → IfOk r P → ((a : A) → P a → Q a) → IfOk r Q
if_ok (Ok a) p q = q a p
if_ok (Err e) p q = tt
