use Rattle.std.proofs.Common.{◌∙◌}
use Rattle.check_names.proofs.Lines.{called_in_line}
use Rattle.check_names.proofs.members.has_some_called.Goals as goal

pub returns : goal.returns
returns c =
    λ k e. c.any_called.ensures
    ∙ called_in_line c.args.table.now c.args.class c.args.name c.ancestors.result.now k e (c.ancestors.ensures.some k e)
