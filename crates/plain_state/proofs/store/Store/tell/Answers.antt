use Rattle.std.proofs.Common.{◌++◌, ◌∷◌, [], List, ap, ◌∙◌}
use Rattle.run_journal.specs.declared.entry.Entry.{Entry}
use Rattle.run_journal.specs.Parts.{object_part}
use Rattle.spec_table.specs.Tables.{table_spec}
use Rattle.vdm_legal.specs.State.{ticks}
use Rattle.plain_state.specs.Entered.{journal}
use Rattle.plain_state.proofs.Entries.{time-entered}
use Rattle.plain_state.proofs.store.Store.tell.Goals as goal

pub returns-clause-entered : goal.returns-clause-entered
returns-clause-entered c =
    let before = journal c.args.self.now in
    time-entered (table_spec c.args.table.now) c.args.thread before _ c.ticks_on-ticks.result c.requires.ready
    (c.ticks_on-ticks.ensures ∙ ap (λ (xs : List Entry). ticks (object_part 0 xs)) c.as_slice.ensures)
    (c.in_ok-enter.ensures.ok ∙ ap (λ e. before ++ e ∷ []) c.new.ensures)
