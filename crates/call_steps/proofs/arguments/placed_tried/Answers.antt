use Rattle.std.proofs.Common.{Bor, Some, option_map, ap, sym, ◌∙◌}
use Rattle.vdm_values.specs.declared.value.Value.{Value}
use Rattle.stmt_meaning.specs.Calls.{requested}
use Rattle.type_tree.specs.TypeView.{type_view}
use Rattle.spec_table.specs.Tables.{table_spec}
use Rattle.step_data.specs.declared.calling.Calling.{Calling}
use Rattle.step_data.specs.Callings.{call_operation, calling_of}
use Rattle.call_steps.proofs.Passing.{argument_next, without_value}
use Rattle.call_steps.proofs.arguments.placed_tried.Goals as goal

pub returns-in-None : goal.returns-in-None
returns-in-None c = λ is stands.
    let spec = table_spec c.args.table.now in
    let r = c.args.requesting.now in
    without_value spec (Some r.call.value.op.class) (requested spec (calling_of r.call.value)) c.args.locals.now.items
    (call_operation r.call.value).parameters r.places.items r.call.value.arguments c.args.index
    (sym c.value_at.ensures ∙ ap (option_map (λ (v : Bor Value). v.now)) c.in-None.is)

pub returns-in-Some : goal.returns-in-Some
returns-in-Some c =
    let spec = table_spec c.args.table.now in
    let r = c.args.requesting.now in
    argument_next spec (Some r.call.value.op.class) (requested spec (calling_of r.call.value)) c.args.locals.now.items
    (call_operation r.call.value).parameters r.places.items r.call.value.arguments c.args.index c.value_tried.new.locals.items (type_view c.args.declared.now) c.args.place c.in-Some.value.now
    (Some c.deref.result.now.op.class) c.value_tried.result (ap (λ (x : Calling). Some x.op.class) c.deref.ensures)
    (sym c.value_at.ensures ∙ ap (option_map (λ (v : Bor Value). v.now)) c.in-Some.is) c.value_tried.ensures
