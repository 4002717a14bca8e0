use Rattle.std.proofs.Common.{map, ap, ◌∙◌, arith}
use Rattle.std.proofs.lemmas.List.{take_all}
use Rattle.class_checks.specs.TypeNames.{form_of}
use Rattle.class_meaning.specs.Classes.{name_of_class}
use Rattle.check_fields.specs.Below.check_scopes.specs.Told.{spec_in}
use Rattle.type_tree.specs.TypeView.{type_view}
use Rattle.type_tree.specs.declared.type_expr.TypeExpr.{TypeExpr}
use Rattle.check_calls.proofs.callee.each_form.Goals as goal

pub returns : goal.returns
returns c =
    c.loop-parameter.invariant
    ∙ ap (map (λ (t : TypeExpr). form_of (spec_in c.args.setting) (name_of_class (spec_in c.args.setting) c.args.owner.number) (type_view t)))
    (take_all c.loop-parameter.parameter-index c.args.parameters.now (omega (arith, c.loop-parameter-test.false)))
