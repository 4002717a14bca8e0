use Rattle.std.proofs.Common.{ap, ◌∙◌, sym, option_map}
use Rattle.patterns.proofs.Opening.{leads_parts, leads_apart, count_of_maplet_views, choose_pair_from_the_first}
use Rattle.patterns.proofs.open.open_map.Goals as goal

pub returns-in_ok-left-in-Some : goal.returns-in_ok-left-in-Some
returns-in_ok-left-in-Some c = λ types given ts.
    leads_parts types _ _ _ _ _ given ts (ap (option_map (λ r. r.now)) c.in-Some.is) (count_of_maplet_views c.args.maplets.now ∙ c.if-maplets-entries.true)
    (choose_pair_from_the_first types _ _ _ given c.in_ok-left-in-Some.ensures)

pub returns-else-maplets-entries : goal.returns-else-maplets-entries
returns-else-maplets-entries c = λ types given ts.
    leads_apart types _ _ _ _ _ (ap (option_map (λ r. r.now)) c.in-Some.is) (λ e. c.if-maplets-entries.false (sym (count_of_maplet_views c.args.maplets.now) ∙ e))
