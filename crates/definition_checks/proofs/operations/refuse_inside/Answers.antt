use Rattle.std.proofs.Common.{option_map, true}
use Rattle.expr_tree.specs.View.{boxed_view}
use Rattle.type_tree.specs.TypeView.{type_view}
use Rattle.vdm_tree.specs.ClassView.{body_view}
use Rattle.vdm_tree.specs.StmtView.{boxed_stmt}
use Rattle.shared_names.specs.Maps.{held}
use Rattle.spec_checks.specs.Definitions.{operation_body_faults, result_of}
use Rattle.part_checks.specs.Below.check_scopes.specs.Told.{first_in}
use Rattle.part_checks.specs.Below.definition_scopes.specs.Standing.{spec_at, with_locals}
use Rattle.definition_checks.specs.Parts.{class_of}
use Rattle.definition_checks.proofs.Inner.{inner_told}
use Rattle.definition_checks.proofs.operations.refuse_inside.Goals as goal

pub returns : goal.returns
returns c =
    inner_told (spec_at c.args.site) (class_of c.args.scope.now) (with_locals c.args.scope.now (held c.args.locals.now)) c.refuse_maybe_condition_at-2.result
    (with_locals c.afterwards-after.result (held c.args.locals.now))
    (result_of (spec_at c.args.site) (class_of c.args.scope.now) (option_map type_view c.args.operation.now.result_type)) c.in_ok-form.form true
    (operation_body_faults (spec_at c.args.site) (class_of c.args.scope.now) (with_locals c.args.scope.now (held c.args.locals.now))
    (option_map type_view c.args.operation.now.result_type) (body_view boxed_stmt c.args.operation.now.body))
    (option_map boxed_view c.args.operation.now.pre) (option_map boxed_view c.args.operation.now.post)
    (first_in c.args.refusals.now) (first_in c.refuse_body.new.refusals) (first_in c.refuse_maybe_condition_at.new.refusals)
    (first_in c.refuse_maybe_condition_at-2.new.refusals)
    c.in_ok-refuse_body.ensures c.in_ok-refuse_maybe_condition_at.ensures (c.afterwards-after.ensures (held c.args.locals.now)) c.in_ok-form.ensures
    c.refuse_maybe_condition_at-2.ensures
