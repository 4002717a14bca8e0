use Rattle.std.proofs.Common.{List, ap, drop, ◌∙◌}
use Rattle.run_journal.specs.declared.entry.Entry.{Entry}
use Rattle.run_journal.specs.Parts.{object_part}
use Rattle.spec_table.specs.Tables.{table_spec}
use Rattle.plain_state.specs.Guarded.{guarded_class}
use Rattle.plain_state.proofs.Finding.{first-found}
use Rattle.plain_state.proofs.store.Store.guarded_class.Goals as goal

pub returns : goal.returns
returns c =
    let spec = table_spec c.args.table.now in
    c.guarded_class.ensures
    ∙ ap (λ (xs : List Entry). guarded_class spec (object_part c.args.object xs)) (c.behind-made.ensures ∙ ap (drop c.first.result) c.as_slice.ensures)
    ∙ ap (guarded_class spec) (first-found c.args.self.now.entries c.args.object c.first.result c.first.ensures)
