use Rattle.std.proofs.Common.{Bor, option_map, ap, sym, ◌∙◌}
use Rattle.vdm_values.specs.declared.slot.Slot.{Slot}
use Rattle.spec_table.specs.Tables.{table_spec}
use Rattle.main_steps.proofs.Fitting.{class_asked, without_variable, without_slot, slot_next}
use Rattle.main_steps.proofs.testing.next_tried.Goals as goal

pub returns-in-None : goal.returns-in-None
returns-in-None c =
    let spec = table_spec c.args.table.now in
    without_variable spec c.args.making.now.variables.now c.args.making.now.slots.items (class_asked spec c.args.making.now) c.args.index
    (sym c.variable_at.ensures ∙ c.in-None.is)

pub returns-in-None-slot_at : goal.returns-in-None-slot_at
returns-in-None-slot_at c =
    let spec = table_spec c.args.table.now in
    without_slot spec c.args.making.now.variables.now c.args.making.now.slots.items (class_asked spec c.args.making.now) c.args.index
    (sym c.slot_at.ensures ∙ ap (option_map (λ (s : Bor Slot). s.now)) c.in-None-slot_at.is)

pub returns-in-Some-slot_at : goal.returns-in-Some-slot_at
returns-in-Some-slot_at c =
    let spec = table_spec c.args.table.now in
    slot_next spec c.args.making.now.variables.now c.args.making.now.slots.items (class_asked spec c.args.making.now) c.args.index
    c.slot_tried.new.locals.items c.in-Some.variable c.in-Some-slot_at.slot.now c.slot_tried.result (sym c.variable_at.ensures ∙ c.in-Some.is)
    (sym c.slot_at.ensures ∙ ap (option_map (λ (s : Bor Slot). s.now)) c.in-Some-slot_at.is) c.slot_tried.ensures
