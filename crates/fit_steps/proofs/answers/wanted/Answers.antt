use Rattle.std.proofs.Common.{sym, ◌∙◌}
use Rattle.member_meaning.specs.TypeRanks.{finder, type_rank}
use Rattle.spec_table.specs.Members.{descends_from}
use Rattle.spec_table.specs.Tables.{table_spec}
use Rattle.type_meaning.specs.Shapes.{tests_of}
use Rattle.eval_data.specs.Parts.{asked_type}
use Rattle.fit_steps.proofs.Results.{if_ok}
use Rattle.fit_steps.proofs.answers.wanted.Goals as goal

pub returns-in-Named : goal.returns-in-Named
returns-in-Named c =
    let spec = table_spec c.args.table.now in
    if_ok c.tests_of_name.result c.tests_of_name.ensures (λ found is place.
    is place ∙ (λ i. tests_of (finder spec) (descends_from spec) (type_rank spec) c.args.value.now (c.type_scope-class.ensures i) (asked_type place (sym c.in-Named.is i))))
