-- What begins, and nothing besides.
use Rattle.std.proofs.Common.{◌≡◌, [], Option, Some, None, ap, refl}
use Rattle.std.proofs.lemmas.List.{append-nil}
use Rattle.grammar_fronts.specs.Turns.{Turn, goes_on, begins, joins, adds, then_wanted}

pub nothing_more : (found : Option Turn) → then_wanted found [] ≡ found
nothing_more None = refl
nothing_more (Some (goes_on parts)) = ap (λ more. Some (goes_on more)) (append-nil parts)
nothing_more (Some (begins pull parts behind)) = ap (λ more. Some (begins pull parts more)) (append-nil behind)
nothing_more (Some (joins left right parts behind)) = ap (λ more. Some (joins left right parts more)) (append-nil behind)
nothing_more (Some (adds pull parts)) = ap (λ more. Some (adds pull more)) (append-nil parts)
