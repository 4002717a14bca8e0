use Rattle.std.proofs.Common.{◌∙◌}
use Rattle.check_calls.proofs.Selections.{unless_first, unless_none}
use Rattle.check_calls.proofs.selection.unless_refused.Goals as goal

pub returns-in-Some : goal.returns-in-Some
returns-in-Some c = λ others e. unless_first _ _ c.args.target_place c.refused_first.result c.in-Some.first others (e ∙ c.in-Some.is) c.refused_first.ensures

pub returns-in-None : goal.returns-in-None
returns-in-None c = λ others e. unless_none _ _ c.args.target_place c.refused_callee.result others (e ∙ c.in-None.is) c.refused_callee.ensures
