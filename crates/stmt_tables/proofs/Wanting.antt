-- What begins, and nothing besides.
use Rattle.std.proofs.Common.{◌≡◌, List, [], ◌∷◌, ◌∙◌, ap, refl}
use Rattle.std.proofs.lemmas.List.{append-nil}
use Rattle.stmt_fronts.specs.Turns.{Turn, goes_on, begins, joins, adds, calls, followed, then_wanted}

no_more : (turn : Turn) → followed [] turn ≡ turn
no_more (goes_on parts) = ap (λ more. goes_on more) (append-nil parts)
no_more (begins pull parts behind) = ap (λ more. begins pull parts more) (append-nil behind)
no_more (joins left right parts behind) = ap (λ more. joins left right parts more) (append-nil behind)
no_more (adds pull parts) = ap (λ more. adds pull more) (append-nil parts)
no_more (calls pull parts behind) = ap (λ more. calls pull parts more) (append-nil behind)

pub nothing_more : (turns : List Turn) → then_wanted turns [] ≡ turns
nothing_more [] = refl
nothing_more (turn ∷ turns) = ap (λ t. t ∷ then_wanted turns []) (no_more turn) ∙ ap (λ ts. turn ∷ ts) (nothing_more turns)
