use Rattle.std.proofs.Common.{◌≡◌, true, ◌∙◌, arith}
use Rattle.std.proofs.lemmas.Bool.Decides.{nat_tests}
use Rattle.abstract_syntax.specs.Classes.{is_same_name}
use Rattle.target_values.proofs.Newest.{newest_there}
use Rattle.target_values.proofs.locals.newest_place.Goals as goal

pub returns-then-name-locals-clause-newest : goal.returns-then-name-locals-clause-newest
returns-then-name-locals-clause-newest c = λ slot.
    let same : is_same_name c.args.name c.index-locals-place.result.0 ≡ true = grind (arith, nat_tests) in
    c.loop-place.invariant slot ∙
    newest_there c.args.name slot c.args.locals.now c.loop-place.place c.index-locals-place.result (omega arith) (omega arith) c.index-locals-place.is same
