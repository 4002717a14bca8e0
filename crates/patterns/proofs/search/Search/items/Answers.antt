use Rattle.std.proofs.Common.{ap, ◌∙◌, refl}
use Rattle.patterns.specs.Todos.{all_ways}
use Rattle.patterns.proofs.Picked.{headed_slice, no_items}
use Rattle.patterns.proofs.Steps.{goes_on, goes_back, put_two}
use Rattle.patterns.proofs.Turns.{items_none, items_short, items_step}
use Rattle.patterns.proofs.Views.{view_headed, view_none}
use Rattle.patterns.proofs.search.Search.items.Goals as goal

pub returns-in_default : goal.returns-in_default
returns-in_default c = λ types.
    goes_on types _ _ _ refl refl c.requires (items_none types _ _ _ _ (view_none _ c.in_default.len_below))

pub returns-in_default-items : goal.returns-in_default-items
returns-in_default-items c = λ types.
    goes_back types _ _ _ refl refl c.requires
    (items_short types _ _ _ _ _ _ (view_headed _ _ c.in-len1-up.len_at_least c.pattern-item.is) (no_items _ c.in_default-items.len_below))

pub returns : goal.returns
returns c = λ types.
    goes_on types _ _ _ refl refl c.requires
    (ap (all_ways types _) (put_two _ _ _ _ _ c.in_ok-push-2.ensures c.in_ok-push.ensures) ∙
    items_step types _ _ _ _ _ _ _ _ (view_headed _ _ c.in-len1-up.len_at_least c.pattern-item.is)
    (headed_slice _ _ c.in-len1-up-items.len_at_least c.item-item.is))
