use Rattle.std.proofs.Common.{Bor, ◌+◌, drop, option_map, ap, sym, ◌∙◌}
use Rattle.vdm_kinds.specs.declared.place.Place.{Place}
use Rattle.node_meaning.specs.Fitting.{slot_typed, slots_typed}
use Rattle.node_meaning.specs.Names.{variable_definition}
use Rattle.step_data.specs.declared.making.Creating.{Creating}
use Rattle.call_steps.specs.Trials.{tried_code}
use Rattle.vdm_values.specs.declared.slot.Slot.{Slot}
use Rattle.step_data.specs.Callings.{object_left}
use Rattle.spec_table.specs.Tables.{table_spec}
use Rattle.object_steps.proofs.Fitting.{with_slot, without_variable, without_slot}
use Rattle.object_steps.proofs.testing.next_tried.Goals as goal

pub returns-in-None : goal.returns-in-None
returns-in-None c =
    without_variable (table_spec c.args.table.now) c.args.making.now.object.value.place c.args.making.now.variables.now c.args.making.now.slots.items
    (object_left (table_spec c.args.table.now) c.args.making.now) c.args.locals.now.items c.args.index
    (sym c.variable_at.ensures ∙ c.in-None.is)

pub returns-in-None-slot_at : goal.returns-in-None-slot_at
returns-in-None-slot_at c =
    without_slot (table_spec c.args.table.now) c.args.making.now.object.value.place c.args.making.now.variables.now c.args.making.now.slots.items
    (object_left (table_spec c.args.table.now) c.args.making.now) c.args.locals.now.items c.args.index
    (sym c.slot_at.ensures ∙ ap (option_map (λ (s : Bor Slot). s.now)) c.in-None-slot_at.is)

pub returns-in_ok-tried-in-Some-slot_at : goal.returns-in_ok-tried-in-Some-slot_at
returns-in_ok-tried-in-Some-slot_at c =
    let spec = table_spec c.args.table.now in
    let m = c.args.making.now in
    let var = c.in-Some.variable in
    let slot = c.in-Some-slot_at.slot.now in
    let locals = c.args.locals.now.items in
    let further = object_left spec m in
    let rest = slots_typed spec m.object.value.place (drop (c.args.index + 1) m.variables.now) (drop (c.args.index + 1) m.slots.items) further in
    let place = ap (λ (o : Creating). o.place) c.deref.ensures in
    ap (λ (p : Place). tried_code spec p c.slot_tried.new.locals.items rest c.in_ok-tried-in-Some-slot_at.tried) (sym place)
    ∙ c.in_ok-tried-in-Some-slot_at.ensures rest
    ∙ ap (λ (p : Place). slot_typed spec p var.class (variable_definition spec var) slot rest locals) place
    ∙ with_slot spec m.object.value.place m.variables.now m.slots.items further locals c.args.index var slot
    (sym c.variable_at.ensures ∙ c.in-Some.is) (sym c.slot_at.ensures ∙ ap (option_map (λ (s : Bor Slot). s.now)) c.in-Some-slot_at.is)
