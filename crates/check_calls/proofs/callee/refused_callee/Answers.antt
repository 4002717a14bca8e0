use Rattle.std.proofs.Common.{◌∙◌}
use Rattle.check_calls.proofs.Callees.{refused_calls}
use Rattle.check_calls.proofs.callee.refused_callee.Goals as goal

pub returns : goal.returns
returns c =
    refused_calls _ _ c.args.kind c.args.place c.of_any_arguments.result c.refuse.ensures c.of_any_arguments.ensures.wants (c.of_any_arguments.ensures.form ∙ c.any.ensures)
