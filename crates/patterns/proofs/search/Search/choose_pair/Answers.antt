use Rattle.std.proofs.Common.{◌≡◌, ◌≤◌, ◌<◌, ap, refl, length, get_or, subst}
use Rattle.patterns.specs.Todos.{all_ways, at}
use Rattle.patterns.proofs.Steps.{goes_on, goes_back, goes_both, put_three_behind}
use Rattle.patterns.proofs.Turns.{pair_none, pair_past, pair_step}
use Rattle.patterns.proofs.Picked.{at_without}
use Rattle.patterns.proofs.Views.{maplets_headed, maplets_none, maplet_view-is}
use Rattle.patterns.proofs.search.Search.choose_pair.Goals as goal

pub returns-in_default : goal.returns-in_default
returns-in_default c = λ types.
    goes_on types _ _ _ refl refl c.requires (pair_none types _ _ _ _ _ (maplets_none _ c.in_default.len_below))

pub returns : goal.returns
returns c = λ types.
    goes_both types _ _ _ _ _ _ c.in_ok-wait.ensures refl refl refl c.requires
    (ap (all_ways types _) (put_three_behind _ _ _ _ _ _ _ _ c.in_ok-push-3.ensures c.in_ok-push-2.ensures c.in_ok-push.ensures c.in_ok-wait.ensures.work))
    (pair_step types _ _ _ _ _ _ _ _ _ _ _ (maplets_headed _ _ _ _ c.in-len1-up.len_at_least c.pattern-item.is c.both.ensures)
    (subst (λ xs. c.args.from < length (at xs)) c.as_slice.ensures.value c.in-Some.ensures.0)
    (subst (λ xs. c.in-Some.pair.now ≡ get_or (at xs) c.args.from c.in-Some.pair.now) c.as_slice.ensures.value c.in-Some.ensures.1)
    (at_without _ _ _ _ _ c.in_ok-rest.ensures c.as_slice-2.ensures.value) refl)

pub returns-in_default-pick_pair : goal.returns-in_default-pick_pair
returns-in_default-pick_pair c = λ types.
    goes_back types _ _ _ refl refl c.requires
    (pair_past types _ _ _ _ _ _ _ _ (maplets_headed _ _ _ _ c.in-len1-up.len_at_least c.pattern-item.is (maplet_view-is _))
    (subst (λ xs. length (at xs) ≤ c.args.from) c.as_slice.ensures.value c.in_default-pick_pair.ensures))
