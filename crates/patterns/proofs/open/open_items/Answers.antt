use Rattle.std.proofs.Common.{ap, ◌∙◌, sym, refl, option_map}
use Rattle.patterns.proofs.Opening.{leads_parts, leads_apart, count_of_views}
use Rattle.patterns.proofs.open.open_items.Goals as goal

pub returns-then-patterns-items : goal.returns-then-patterns-items
returns-then-patterns-items c = λ types given ts.
    leads_parts types _ _ _ _ _ given ts (ap (option_map (λ r. r.now)) c.in-Some.is) (count_of_views c.args.patterns.now ∙ c.if-patterns-items.true) refl

pub returns-else-patterns-items : goal.returns-else-patterns-items
returns-else-patterns-items c = λ types given ts.
    leads_apart types _ _ _ _ _ (ap (option_map (λ r. r.now)) c.in-Some.is) (λ e. c.if-patterns-items.false (sym (count_of_views c.args.patterns.now) ∙ e))
