use Rattle.std.proofs.Common.{◌++◌, ◌∷◌, [], List, ap, ◌∙◌}
use Rattle.run_journal.specs.declared.write.Write.{Write as Pair}
use Rattle.run_journal.specs.Parts.{object_part}
use Rattle.spec_table.specs.Tables.{table_spec}
use Rattle.vdm_legal.specs.State.{keeps_with}
use Rattle.plain_state.specs.Entered.{journal}
use Rattle.plain_state.proofs.Entries.{write-entered}
use Rattle.plain_state.proofs.store.Store.write.Goals as goal

pub returns-clause-entered : goal.returns-clause-entered
returns-clause-entered c =
    let spec = table_spec c.args.table.now in
    let before = journal c.args.self.now in
    write-entered spec c.args.thread before _ c.args.object c.args.writes c.in_ok-kept.kept c.write_answer.result c.requires.ready
    (c.in_ok-kept.ensures ∙ ap (λ (ws : List Pair). keeps_with spec (object_part c.args.object before) ws) c.as_slice.ensures)
    c.write_answer.ensures
    (c.in_ok-enter.ensures.ok ∙ ap (λ e. before ++ e ∷ []) c.new.ensures)
