use Rattle.std.proofs.Common.{false, List, ◌++◌, map, ap, ◌∙◌}
use Rattle.class_checks.specs.Callees.{operation_wants}
use Rattle.class_checks.specs.Members.{may_not_create, unseen}
use Rattle.check_fields.specs.Below.check_scopes.specs.Told.{first_in, scope_at, spec_in}
use Rattle.type_tree.specs.TypeView.{type_view}
use Rattle.type_tree.specs.declared.type_expr.TypeExpr.{TypeExpr}
use Rattle.check_calls.proofs.Callees.{calls_of}
use Rattle.check_names.proofs.Notes.{note_both}
use Rattle.check_calls.proofs.created.by_operation.Goals as goal

pub returns : goal.returns
returns c =
    λ names. calls_of (first_in c.args.refusals.now) _ _ (may_not_create (spec_in c.args.setting) (scope_at c.args.setting names) c.args.at.place c.args.setting.scope.now.reach ++ unseen (spec_in c.args.setting) (scope_at c.args.setting names) c.args.at.class_place c.args.owner.number c.args.operation.now.access) _ _ (record { wants = c.in_ok-wants.wants; result = c.in_ok-result.result })
    (note_both (first_in c.args.refusals.now) _ _ false _ (may_not_create (spec_in c.args.setting) (scope_at c.args.setting names) c.args.at.place c.args.setting.scope.now.reach)
    (unseen (spec_in c.args.setting) (scope_at c.args.setting names) c.args.at.class_place c.args.owner.number c.args.operation.now.access) (c.may_not_create.ensures names) (c.unseen-hidden.ensures names))
    (c.in_ok-wants.ensures
    ∙ ap (λ (ts : List TypeExpr). operation_wants (spec_in c.args.setting) c.args.owner.number (map type_view ts)) c.as_slice.ensures.value)
    c.in_ok-result.ensures
