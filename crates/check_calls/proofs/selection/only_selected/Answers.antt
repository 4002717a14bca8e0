use Rattle.std.proofs.Common.{ap, ◌∙◌}
use Rattle.check_calls.specs.Calling.{made}
use Rattle.check_calls.specs.Selecting.{shown}
use Rattle.check_calls.proofs.Selections.{only_found, only_refused}
use Rattle.check_calls.proofs.selection.only_selected.Goals as goal

pub returns-in-Refused : goal.returns-in-Refused
returns-in-Refused c =
    λ tree e. only_refused _ _ c.refused_first.result c.in-Refused.first tree (e ∙ ap shown c.in-Refused.is) c.refused_first.ensures

pub returns-in-Found : goal.returns-in-Found
returns-in-Found c =
    λ tree e. only_found _ _ c.told_of.result (made c.in-Found.first c.in-Found.callee) tree (e ∙ ap shown c.in-Found.is) c.told_of.ensures
