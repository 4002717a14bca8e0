use Rattle.std.proofs.Common.{map, sym, Some, None, ◌∙◌}
use Rattle.expr_tree.specs.TypeDefView.{field_view}
use Rattle.record_steps.proofs.AtPlaces.{at_place, field_placed}
use Rattle.record_steps.proofs.placing.field_in.Goals as goal

pub returns-in-None : goal.returns-in-None
returns-in-None c =
    sym (field_placed c.args.name (map field_view c.args.fields.now) c.args.values.now None (sym c.in-None.is ∙ c.place_of.ensures))

pub returns-in-Some : goal.returns-in-Some
returns-in-Some c =
    at_place c.value_at.result _ _
    (field_placed c.args.name (map field_view c.args.fields.now) c.args.values.now (Some c.in-Some.place) (sym c.in-Some.is ∙ c.place_of.ensures))
    c.value_at.ensures
