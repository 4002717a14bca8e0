use Rattle.std.proofs.Common.{List, map, ap, ◌∙◌}
use Rattle.class_checks.specs.Callees.{operation_wants}
use Rattle.check_fields.specs.Below.check_scopes.specs.Told.{spec_in}
use Rattle.type_tree.specs.TypeView.{type_view}
use Rattle.type_tree.specs.declared.type_expr.TypeExpr.{TypeExpr}
use Rattle.check_calls.proofs.Callees.{calls_of}
use Rattle.check_calls.proofs.callee.operation_callee.Goals as goal

pub returns : goal.returns
returns c =
    λ before after refusals e. calls_of before after c.args.spoiled refusals _ _ (record { wants = c.in_ok-wants.wants; result = c.in_ok-result.result }) e
    (c.in_ok-wants.ensures
    ∙ ap (λ (ts : List TypeExpr). operation_wants (spec_in c.args.setting) c.args.owner.number (map type_view ts)) c.as_slice.ensures.value)
    c.in_ok-result.ensures
