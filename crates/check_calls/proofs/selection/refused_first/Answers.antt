use Rattle.std.proofs.Common.{◌∙◌}
use Rattle.check_calls.proofs.Selections.{refused_first}
use Rattle.check_calls.proofs.selection.refused_first.Goals as goal

pub returns : goal.returns
returns c =
    λ others e. refused_first _ _ _ c.of_any_arguments.result others e c.refuse_first.ensures c.of_any_arguments.ensures.wants
    (c.of_any_arguments.ensures.form ∙ c.any.ensures)
