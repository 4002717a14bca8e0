use Rattle.std.proofs.Common.{◌≡◌, map, take}
use Rattle.class_checks.specs.TypeNames.{form_of}
use Rattle.class_meaning.specs.Classes.{name_of_class}
use Rattle.check_fields.specs.Below.check_scopes.specs.Told.{spec_in}
use Rattle.type_tree.specs.TypeView.{type_view}
use Rattle.type_tree.specs.declared.type_expr.TypeExpr.{TypeExpr}
use Rattle.check_calls.proofs.callee.each_form.Given as goal

abbrev pub invariant-loop-parameter : goal.invariant-loop-parameter
invariant-loop-parameter l =
    l.wants.items
    ≡ map (λ (t : TypeExpr). form_of (spec_in l.setting) (name_of_class (spec_in l.setting) l.owner.number) (type_view t))
    (take l.parameter-index l.parameters)
