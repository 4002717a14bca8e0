use Rattle.std.proofs.Common.{ap}
use Rattle.vdm_kinds.specs.declared.spec_kind.SpecKind.TheVariants.{UnknownName}
use Rattle.class_checks.specs.Members.{may_not_create}
use Rattle.check_fields.specs.Below.check_scopes.specs.Told.{first_in, scope_at, spec_in}
use Rattle.check_names.specs.Noting.{Note}
use Rattle.check_calls.proofs.Callees.{later_calls}
use Rattle.check_calls.proofs.created.unknown_class.Goals as goal

pub returns : goal.returns
returns c =
    λ names. later_calls (first_in c.args.refusals.now) _ _
    (may_not_create (spec_in c.args.setting) (scope_at c.args.setting names) c.args.at.place c.args.setting.scope.now.reach) UnknownName c.args.at.class_place c.refused_callee.result
    (ap (λ (n : Note). n.first) (c.may_not_create.ensures names)) c.refused_callee.ensures
