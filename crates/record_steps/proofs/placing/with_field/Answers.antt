use Rattle.std.proofs.Common.{map, sym, ap, Some, None, ◌∙◌}
use Rattle.expr_tree.specs.TypeDefView.{field_view}
use Rattle.record_steps.proofs.AtPlaces.{with_placed}
use Rattle.record_steps.proofs.placing.with_field.Goals as goal

pub returns-in-None : goal.returns-in-None
returns-in-None c =
    with_placed c.args.name c.args.value (map field_view c.args.fields.now) c.args.values.items None (sym c.in-None.is ∙ c.place_of.ensures)

pub returns-in-Some : goal.returns-in-Some
returns-in-Some c =
    c.with_value.ensures ∙
    with_placed c.args.name c.args.value (map field_view c.args.fields.now) c.args.values.items (Some c.in-Some.place) (sym c.in-Some.is ∙ c.place_of.ensures)
