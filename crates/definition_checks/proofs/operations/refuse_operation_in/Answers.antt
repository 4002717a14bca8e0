use Rattle.std.proofs.Common.{option_map}
use Rattle.type_tree.specs.TypeView.{type_view}
use Rattle.vdm_tree.specs.ClassView.{operation_view}
use Rattle.shared_names.specs.Maps.{held}
use Rattle.spec_checks.specs.Definitions.{operation_inner_faults}
use Rattle.class_checks.specs.Scopes.{ScopeTree}
use Rattle.part_checks.specs.Below.check_scopes.specs.Told.{first_in, scope_view}
use Rattle.part_checks.specs.Below.definition_scopes.specs.Standing.{spec_at, with_locals}
use Rattle.part_checks.specs.Wanting.{maybe_type_in}
use Rattle.definition_checks.specs.Parts.{class_of}
use Rattle.definition_checks.proofs.Headed.{headed_told}
use Rattle.definition_checks.proofs.operations.refuse_operation_in.Goals as goal

pub returns : goal.returns
returns c =
    headed_told (spec_at c.args.site) (scope_view c.args.scope.now) c.refuse_inside.result c.args.operation.now.parameters.items c.as_slice-types.result.now
    c.args.operation.now.patterns.items c.as_slice-patterns.result.now
    (maybe_type_in (spec_at c.args.site) (class_of c.args.scope.now) (option_map type_view c.args.operation.now.result_type))
    (λ (s : ScopeTree). operation_inner_faults (spec_at c.args.site) (class_of c.args.scope.now) s (operation_view c.args.operation.now))
    (with_locals c.args.scope.now (held c.in_ok-locals.locals))
    (first_in c.args.refusals.now) (first_in c.refuse_types.new.refusals) (first_in c.refuse_maybe_type.new.refusals) (first_in c.refuse_parameters.new.refusals)
    (first_in c.refuse_inside.new.refusals)
    c.as_slice-types.ensures.value c.as_slice-patterns.ensures.value c.refuse_types.ensures c.refuse_maybe_type.ensures c.in_ok-refuse_parameters.ensures
    c.in_ok-locals.ensures c.refuse_inside.ensures
