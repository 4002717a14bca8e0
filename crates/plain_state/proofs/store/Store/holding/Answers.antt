use Rattle.std.proofs.Common.{ap, drop, take, ◌∙◌}
use Rattle.spec_table.specs.Tables.{table_spec}
use Rattle.plain_state.specs.Found.{through}
use Rattle.plain_state.proofs.Finding.{held-found}
use Rattle.plain_state.proofs.store.Store.holding.Goals as goal

pub returns : goal.returns
returns c =
    c.held_by.ensures
    ∙ held-found c.args.self.now.entries c.args.object (table_spec c.args.table.now) c.args.var c.first.result c.last_write.result c.first.ensures c.last_write.ensures
    c.behind-made.result.now c.up_to-written.result.now
    (c.behind-made.ensures ∙ ap (drop c.first.result) c.as_slice-entries.ensures)
    (c.up_to-written.ensures ∙ ap (take (through c.last_write.result)) c.as_slice-entries.ensures)
