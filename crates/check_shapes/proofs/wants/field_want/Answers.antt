use Rattle.std.proofs.Common.{◌≡◌, ◌∙◌, ap, subst, IfOk, Option, Some, None}
use Rattle.vdm_kinds.specs.declared.name.Name.{Name}
use Rattle.class_checks.specs.Shapes.{field_want}
use Rattle.check_fields.specs.Below.check_scopes.specs.Told.{spec_in}
use Rattle.check_shapes.specs.ShapeView.{names_of, seen_view}
use Rattle.check_shapes.proofs.Places.{name_lookup}
use Rattle.check_shapes.proofs.wants.field_want.Goals as goal

pub returns-in-Some : goal.returns-in-Some
returns-in-Some c =
    subst (λ (o : Option Name). IfOk c.value_want.result (λ f. f ≡ field_want (spec_in c.args.setting) (names_of c.args.fields.now) o (seen_view c.args.target.now)))
    (name_lookup c.args.fields.now c.args.others (Some c.in-Some.field) c.in-Some.ensures.lookup)
    c.value_want.ensures

pub returns-in-None : goal.returns-in-None
returns-in-None c =
    c.any.ensures
    ∙ ap (λ (o : Option Name). field_want (spec_in c.args.setting) (names_of c.args.fields.now) o (seen_view c.args.target.now))
    (name_lookup c.args.fields.now c.args.others None c.in-None.ensures.lookup)
