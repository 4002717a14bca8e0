use Rattle.std.proofs.Common.{ap, ◌∙◌}
use Rattle.vdm_tree.specs.ClassView.{operation_view}
use Rattle.spec_checks.specs.Definitions.{operation_def_faults}
use Rattle.class_checks.specs.Scopes.{ScopeTree}
use Rattle.part_checks.specs.Below.check_scopes.specs.Told.{first_in, scope_view}
use Rattle.part_checks.specs.Below.definition_scopes.specs.Standing.{spec_at}
use Rattle.part_checks.specs.Behind.{on_same}
use Rattle.definition_checks.specs.Parts.{operation_in}
use Rattle.definition_checks.proofs.Same.{operation_same}
use Rattle.definition_checks.proofs.operations.refuse_operation.Goals as goal

pub returns : goal.returns
returns c =
    on_same c.refuse_operation_in.result (first_in c.args.refusals.now) (first_in c.refuse_operation_in.new.refusals)
    (operation_in (spec_at c.args.site) (scope_view c.in_operation-scope.result) (operation_view c.args.operation.now))
    (operation_def_faults (spec_at c.args.site) c.args.site.class (operation_view c.args.operation.now))
    (ap (λ (s : ScopeTree). operation_in (spec_at c.args.site) s (operation_view c.args.operation.now)) c.in_operation-scope.ensures
    ∙ operation_same (spec_at c.args.site) c.args.site.class (operation_view c.args.operation.now))
    c.refuse_operation_in.ensures
