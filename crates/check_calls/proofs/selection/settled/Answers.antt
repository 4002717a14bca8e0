use Rattle.std.proofs.Common.{Option, option_map, ap, ◌∙◌}
use Rattle.check_calls.specs.Selecting.{ShownAll, found_view}
use Rattle.check_calls.specs.declared.selection.Found.{Found}
use Rattle.check_calls.proofs.Selections.{settled_none, settled_some}
use Rattle.check_calls.proofs.selection.settled.Goals as goal

pub returns-in-Some : goal.returns-in-Some
returns-in-Some c =
    let shown_as : Option Found → ShownAll = λ o. record { found = option_map found_view o; refused = c.args.known.refused } in
    λ tree e. settled_some _ _ c.args.target_place c.told_of.result (found_view c.in-Some.found) _ tree (e ∙ ap shown_as c.in-Some.is) c.told_of.ensures

pub returns-in-None : goal.returns-in-None
returns-in-None c =
    let shown_as : Option Found → ShownAll = λ o. record { found = option_map found_view o; refused = c.args.known.refused } in
    λ tree e. settled_none _ _ c.args.target_place c.unless_refused.result c.args.known.refused tree (e ∙ ap shown_as c.in-None.is)
    c.unless_refused.ensures
