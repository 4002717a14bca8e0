use Rattle.std.proofs.Common.{ap, ◌∙◌}
use Rattle.node_meaning.specs.Expressions.{member_value}
use Rattle.eval_data.specs.Parts.{here_of}
use Rattle.name_steps.specs.Settings.{set}
use Rattle.name_steps.proofs.Plans.{if_ok}
use Rattle.name_steps.proofs.reading.value_named.Goals as goal

pub returns : goal.returns
returns c = if_ok c.member_value.result c.member_value.ensures (λ s plan asker.
    plan asker c.args.scope c.args.name c.variable_in-variable.ensures ∙
    ap (λ v. member_value (set c.args.table.now asker) (here_of c.args.here) c.args.place c.args.scope c.args.name v c.args.locals.now.items) c.value_in-value.ensures)
