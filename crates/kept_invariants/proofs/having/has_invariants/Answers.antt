use Rattle.std.proofs.Common.{◌∙◌}
use Rattle.kept_invariants.proofs.Lines.{has_in_line}
use Rattle.kept_invariants.proofs.having.has_invariants.Goals as goal

pub returns : goal.returns
returns c =
    c.some_has.ensures ∙ has_in_line c.args.table.now c.args.class c.ancestors.result.now c.ancestors.ensures.some c.ancestors.ensures.none
