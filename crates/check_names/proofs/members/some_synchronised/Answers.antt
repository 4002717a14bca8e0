use Rattle.std.proofs.Common.{◌∙◌}
use Rattle.check_names.proofs.Lines.{counted_in_line}
use Rattle.check_names.proofs.members.some_synchronised.Goals as goal

pub returns : goal.returns
returns c =
    c.any_synchronised.ensures
    ∙ counted_in_line c.args.table.now c.args.class c.args.name c.ancestors.result.now c.ancestors.ensures.some c.ancestors.ensures.none
