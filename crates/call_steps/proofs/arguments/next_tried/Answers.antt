use Rattle.std.proofs.Common.{Bor, Some, option_map, ap, sym, ◌∙◌}
use Rattle.stmt_meaning.specs.Calls.{requested}
use Rattle.type_tree.specs.TypeView.{type_view}
use Rattle.type_tree.specs.declared.type_expr.TypeExpr.{TypeExpr}
use Rattle.spec_table.specs.Tables.{table_spec}
use Rattle.step_data.specs.Callings.{call_operation, calling_of}
use Rattle.call_steps.proofs.Passing.{without_place, without_type}
use Rattle.call_steps.proofs.arguments.next_tried.Goals as goal

pub returns-in-None : goal.returns-in-None
returns-in-None c =
    let spec = table_spec c.args.table.now in
    let r = c.args.requesting.now in
    without_type spec (Some r.call.value.op.class) (requested spec (calling_of r.call.value)) c.args.locals.now.items
    (call_operation r.call.value).parameters r.places.items r.call.value.arguments c.args.index
    (sym c.parameter_at.ensures ∙ ap (option_map (λ (t : Bor TypeExpr). type_view t.now)) c.in-None.is)

pub returns-in-None-place_at : goal.returns-in-None-place_at
returns-in-None-place_at c =
    let spec = table_spec c.args.table.now in
    let r = c.args.requesting.now in
    without_place spec (Some r.call.value.op.class) (requested spec (calling_of r.call.value)) c.args.locals.now.items
    (call_operation r.call.value).parameters r.places.items r.call.value.arguments c.args.index
    (sym c.place_at.ensures ∙ c.in-None-place_at.is)

pub returns-in_ok-tried-in-Some-place_at : goal.returns-in_ok-tried-in-Some-place_at
returns-in_ok-tried-in-Some-place_at c =
    c.in_ok-tried-in-Some-place_at.ensures
    (sym c.parameter_at.ensures ∙ ap (option_map (λ (t : Bor TypeExpr). type_view t.now)) c.in-Some.is) (sym c.place_at.ensures ∙ c.in-Some-place_at.is)
