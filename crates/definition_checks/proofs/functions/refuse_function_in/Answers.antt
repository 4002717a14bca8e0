use Rattle.type_tree.specs.TypeView.{type_view}
use Rattle.vdm_tree.specs.ClassView.{function_view}
use Rattle.shared_names.specs.Maps.{held}
use Rattle.spec_checks.specs.Definitions.{function_inner_faults}
use Rattle.class_checks.specs.Scopes.{ScopeTree}
use Rattle.class_checks.specs.TypeNames.{type_faults}
use Rattle.part_checks.specs.Below.check_scopes.specs.Told.{first_in, scope_view}
use Rattle.part_checks.specs.Below.definition_scopes.specs.Standing.{spec_at, with_locals}
use Rattle.definition_checks.specs.Parts.{class_of}
use Rattle.definition_checks.proofs.Headed.{headed_told}
use Rattle.definition_checks.proofs.functions.refuse_function_in.Goals as goal

pub returns : goal.returns
returns c =
    headed_told (spec_at c.args.site) (scope_view c.args.scope.now) c.refuse_inside.result c.args.function.now.parameters.items c.as_slice-types.result.now
    c.args.function.now.patterns.items c.as_slice-patterns.result.now
    (type_faults (spec_at c.args.site) (class_of c.args.scope.now) (type_view c.args.function.now.result_type))
    (λ (s : ScopeTree). function_inner_faults (spec_at c.args.site) (class_of c.args.scope.now) s (function_view c.args.function.now))
    (with_locals c.args.scope.now (held c.in_ok-locals.locals))
    (first_in c.args.refusals.now) (first_in c.refuse_types.new.refusals) (first_in c.type_faults.new.refusals) (first_in c.refuse_parameters.new.refusals)
    (first_in c.refuse_inside.new.refusals)
    c.as_slice-types.ensures.value c.as_slice-patterns.ensures.value c.refuse_types.ensures c.type_faults.ensures c.in_ok-refuse_parameters.ensures
    c.in_ok-locals.ensures c.refuse_inside.ensures
