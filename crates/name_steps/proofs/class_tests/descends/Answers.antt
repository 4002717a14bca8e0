use Rattle.std.proofs.Common.{ap, ◌∙◌}
use Rattle.spec_table.specs.Tables.{table_spec}
use Rattle.fit_steps.proofs.Descending.{alike}
use Rattle.name_steps.proofs.class_tests.descends.Goals as goal

pub returns : goal.returns
returns c = c.is_kind_of.ensures ∙ ap (λ f. f c.args.class c.args.other) (alike (table_spec c.args.table.now))
