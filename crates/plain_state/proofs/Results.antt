-- What is known of a result of which something else is known.
use Rattle.std.proofs.Common.{◌≡◌, Result, Ok, Err, IfOk, ◌∙◌}

pub if_ok : {A E : Type 0} {P Q : A → Type 0} (r : Result A E) → IfOk r P → ((a : A) → P a → Q a) → IfOk r Q
if_ok (Ok a) is further = further a is
if_ok (Err e) is further = tt

-- what comes of it is the same
pub same_ok : {A E : Type 0} (r : Result A E) (told meant : A) → told ≡ meant → IfOk r (λ a. a ≡ told) → IfOk r (λ a. a ≡ meant)
same_ok (Ok a) told meant is h = h ∙ is
same_ok (Err e) told meant is h = tt
