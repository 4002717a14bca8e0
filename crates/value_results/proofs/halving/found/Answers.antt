use Rattle.std.proofs.Common.{◌≡◌, sym, rules}
use Rattle.std.specs.Prelude.{slice_index_or}
use Rattle.std.specs.declared.cmp.Ordering.TheVariants.{Equal}
use Rattle.std.proofs.lemmas.Fn.{always_returns_same}
use Rattle.abstract_syntax.specs.ValueOrder.{value_order}
use Rattle.value_results.proofs.Searches.{found_at, found_none, pair_not_there}
use Rattle.value_results.proofs.halving.found.Goals as goal

pub returns-in-Ok : goal.returns-in-Ok
returns-in-Ok c =
    let here : value_order (slice_index_or c.args.pairs.now c.in-Ok.place c.index-pairs-place.result).0 c.args.key.now ≡ Equal =
    c.in-Ok.ensures.position (λ p. value_order p.0 c.args.key.now) (always_returns_same _ _ _ (λ a r q k. search rules)) c.index-pairs-place.result in
    sym (found_at c.args.pairs.now c.args.key.now c.in-Ok.place c.index-pairs-place.result c.requires c.in-Ok.ensures.bound here)

pub returns-in-Err : goal.returns-in-Err
returns-in-Err c =
    sym (found_none c.args.pairs.now c.args.key.now
    (pair_not_there c.args.pairs.now c.args.key.now _ c.requires
    (c.in-Err.ensures.position (λ p. value_order p.0 c.args.key.now) (always_returns_same _ _ _ (λ a r q k. search rules)))))
