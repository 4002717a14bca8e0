-- What is told, and what is not.
use Rattle.std.proofs.Common.{◌≡◌, Option, Some, None, refl, sym}
use Rattle.std.proofs.lemmas.Option.{none-some}
use Rattle.text_phases.specs.Built.{or_behind}

-- neither of two places is told
pub first-none : {A : Type 0} (a b : Option A) → or_behind a b ≡ None → a ≡ None
first-none None b h = refl
first-none (Some x) b h = h

pub behind-none : {A : Type 0} (a b : Option A) → or_behind a b ≡ None → b ≡ None
behind-none None b h = h
behind-none (Some x) b h = absurd (none-some x (sym h))

-- what is told is not nothing
pub told-none : {A B : Type 0} (x : A) → Some x ≡ None → B
told-none x h = absurd (none-some x (sym h))
