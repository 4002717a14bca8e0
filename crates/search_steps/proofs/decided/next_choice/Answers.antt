use Rattle.std.proofs.Common.{take, ap, ◌∙◌}
use Rattle.spec_table.specs.Tables.{table_spec}
use Rattle.eval_data.specs.declared.search.Search.{Search}
use Rattle.search_steps.proofs.Going.{gone_on}
use Rattle.search_steps.proofs.decided.next_choice.Goals as goal

pub returns : goal.returns
returns c =
    gone_on (table_spec c.args.table.now) c.args.search.value c.with_values-kept.result.value 0 c.args.values.items c.args.locals.now.items
    c.truncate.new.self.items c.choose.new.locals.items c.choose.result c.with_values-kept.ensures.behind c.with_values-kept.ensures.done c.with_values-kept.ensures.count
    (c.truncate.ensures.items ∙ ap (λ (s : Search). take s.count c.args.locals.now.items) c.deref.ensures) c.choose.ensures
