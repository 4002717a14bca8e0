use Rattle.std.proofs.Common.{List, not, ap, sym, subst, ◌∙◌}
use Rattle.run_journal.specs.declared.deed.Deed.{Deed}
use Rattle.run_journal.specs.declared.write.Write.{Write as Pair}
use Rattle.run_journal.specs.Parts.{object_part}
use Rattle.spec_table.specs.Tables.{table_spec}
use Rattle.vdm_legal.specs.AtObject.{IsLegalAtObject}
use Rattle.vdm_legal.specs.State.{keeps_with}
use Rattle.plain_state.proofs.Results.{if_ok}
use Rattle.plain_state.proofs.legal.is_legal_behind.Goals as goal

pub returns-in-Act : goal.returns-in-Act
returns-in-Act c =
    let legal = λ (deed : Deed). IsLegalAtObject (table_spec c.args.table.now) c.args.entry.now.object (object_part c.args.entry.now.object c.args.before.now) deed in
    (λ waits. subst legal (sym c.in-Act.is) (c.requires, c.is_waiting.ensures.0 waits), λ is. c.is_waiting.ensures.1 (subst legal c.in-Act.is is).1)

pub returns-in-Fin : goal.returns-in-Fin
returns-in-Fin c =
    let legal = λ (deed : Deed). IsLegalAtObject (table_spec c.args.table.now) c.args.entry.now.object (object_part c.args.entry.now.object c.args.before.now) deed in
    (λ active. subst legal (sym c.in-Fin.is) (c.requires, c.is_active.ensures.0 active), λ is. c.is_active.ensures.1 (subst legal c.in-Fin.is is).1)

pub returns-in-Write : goal.returns-in-Write
returns-in-Write c =
    let spec = table_spec c.args.table.now in
    let object = c.args.entry.now.object in
    let before = object_part object c.args.before.now in
    let legal = λ (deed : Deed). IsLegalAtObject spec object before deed in
    if_ok c.is_answered.result c.is_answered.ensures
    (λ b is. (
      (λ right. subst legal (sym c.in-Write.is)
          (c.requires, is.0 right ∙ ap (λ (ws : List Pair). not (keeps_with spec before ws)) c.as_slice.ensures)),
      (λ h. is.1 ((subst legal c.in-Write.is h).1 ∙ ap (λ (ws : List Pair). not (keeps_with spec before ws)) (sym c.as_slice.ensures))),
    ))
