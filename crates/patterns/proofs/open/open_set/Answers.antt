use Rattle.std.proofs.Common.{ap, ◌∙◌, sym, option_map}
use Rattle.patterns.proofs.Opening.{leads_parts, leads_apart, count_of_views, choose_from_the_first}
use Rattle.patterns.proofs.open.open_set.Goals as goal

pub returns-in_ok-left-in-Some : goal.returns-in_ok-left-in-Some
returns-in_ok-left-in-Some c = λ types given ts.
    leads_parts types _ _ _ _ _ given ts (ap (option_map (λ r. r.now)) c.in-Some.is) (count_of_views c.args.patterns.now ∙ c.if-patterns-elements.true)
    (choose_from_the_first types _ _ _ given c.in_ok-left-in-Some.ensures)

pub returns-else-patterns-elements : goal.returns-else-patterns-elements
returns-else-patterns-elements c = λ types given ts.
    leads_apart types _ _ _ _ _ (ap (option_map (λ r. r.now)) c.in-Some.is) (λ e. c.if-patterns-elements.false (sym (count_of_views c.args.patterns.now) ∙ e))
