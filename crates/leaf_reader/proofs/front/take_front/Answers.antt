use Rattle.std.proofs.Common.{◌≡◌, ◌+◌, length, reverse, take, drop, ap, subst, ◌∙◌}
use Rattle.grammar_tokens.specs.View.{token_view, token_views}
use Rattle.stmt_reading.specs.Leaves.{front_length}
use Rattle.leaf_reader.proofs.Closing.{fewer_items}
use Rattle.leaf_reader.proofs.Turned.{turned-front, turned-rest}
use Rattle.leaf_reader.proofs.front.take_front.Goals as goal
use Rattle.leaf_reader.proofs.front.take_front.Goals.{After-reverse}

-- the front and the rest are all
all : (c : After-reverse) → c.in_ok-left.left + front_length c.args.kind (reverse (token_views c.source.inside.items.items)) ≡ length c.source.inside.items.items
all c =
    subst (λ items. c.in_ok-left.left + front_length c.args.kind (reverse (token_views items)) ≡ length items) c.deref.ensures.value c.in_ok-left.ensures

pub returns-clause-front : goal.returns-clause-front
returns-clause-front c =
    let items = c.source.inside.items.items in
    ap token_views (c.reverse.ensures.items ∙ ap reverse c.in_ok-front.ensures.tail)
    ∙ turned-front token_view items c.in_ok-left.left _ (all c)
    ∙ ap (λ tokens. take (front_length c.args.kind tokens) tokens) c.source.view_is

pub returns-clause-rest : goal.returns-clause-rest
returns-clause-rest c =
    let items = c.source.inside.items.items in
    ap (λ left. reverse (token_views left)) (c.in_ok-front.ensures.items)
    ∙ turned-rest token_view items c.in_ok-left.left _ (all c)
    ∙ ap (λ tokens. drop (front_length c.args.kind tokens) tokens) c.source.view_is

pub invariant_of-source-2 : goal.invariant_of-source-2
invariant_of-source-2 c = rw c.in_ok-front.ensures.items (fewer_items _ _ _ c.source.invariant)
