use Rattle.std.proofs.Common.{ap, ◌∙◌}
use Rattle.conform.specs.Fits.{says}
use Rattle.member_meaning.specs.TypeRanks.{finder, type_rank}
use Rattle.spec_table.specs.Tables.{table_spec}
use Rattle.node_meaning.specs.Fitting.{descends, fit_then}
use Rattle.eval_data.specs.Parts.{nest_of}
use Rattle.eval_data.specs.Steps.{verdict_of}
use Rattle.fit_steps.proofs.Results.{if_ok}
use Rattle.fit_steps.proofs.advancing.begun.Goals as goal

pub returns : goal.returns
returns c =
    let spec = table_spec c.args.table.now in
    if_ok c.advanced.result c.advanced.ensures (λ t is asker.
    is asker ∙ (λ i. fit_then spec (nest_of c.args.nest) c.args.place (verdict_of c.args.verdict c.args.place (ap (λ v. v.items) c.replace.ensures.value i))
    (says (c.in_ok-testing.ensures (finder spec) (descends spec) (type_rank spec) i))))
