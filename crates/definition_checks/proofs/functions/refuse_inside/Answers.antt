use Rattle.std.proofs.Common.{◌≡◌, false, Some, ap, option_map, ◌∙◌}
use Rattle.vdm_kinds.specs.declared.name.Name.{Name}
use Rattle.expr_tree.specs.View.{boxed_view}
use Rattle.type_tree.specs.TypeView.{type_view}
use Rattle.vdm_tree.specs.ClassView.{body_view}
use Rattle.form_meaning.specs.Forms.{FormTree}
use Rattle.shared_names.specs.Maps.{held}
use Rattle.spec_checks.specs.Definitions.{function_body_faults}
use Rattle.class_checks.specs.Results.{first_among}
use Rattle.class_checks.specs.TypeNames.{form_of}
use Rattle.part_checks.specs.Below.check_scopes.specs.Told.{first_in}
use Rattle.part_checks.specs.Below.definition_scopes.specs.Standing.{spec_at, with_locals}
use Rattle.definition_checks.specs.Parts.{class_of}
use Rattle.definition_checks.proofs.Inner.{inner_told}
use Rattle.definition_checks.proofs.functions.refuse_inside.Goals as goal

pub returns : goal.returns
returns c =
    let form : FormTree = form_of (spec_at c.args.site) (class_of c.args.scope.now) (type_view c.args.function.now.result_type) in
    let wanted_is : c.in_ok-wanted.wanted ≡ form =
    c.in_ok-wanted.ensures ∙ ap (λ (k : Name). form_of (spec_at c.args.site) k (type_view c.args.function.now.result_type)) c.type_scope.ensures in
    inner_told (spec_at c.args.site) (class_of c.args.scope.now) (with_locals c.args.scope.now (held c.args.locals.now)) c.refuse_maybe_condition_at-2.result
    (with_locals c.afterwards-after.result (held c.args.locals.now)) (Some form) (Some c.in_ok-wanted.wanted) false
    (function_body_faults (spec_at c.args.site) (class_of c.args.scope.now) (with_locals c.args.scope.now (held c.args.locals.now)) form
    (body_view boxed_view c.args.function.now.body))
    (option_map boxed_view c.args.function.now.pre) (option_map boxed_view c.args.function.now.post)
    (first_in c.args.refusals.now) (first_in c.refuse_body.new.refusals) (first_in c.refuse_maybe_condition_at.new.refusals)
    (first_in c.refuse_maybe_condition_at-2.new.refusals)
    (c.in_ok-refuse_body.ensures
    ∙ ap (λ (f : FormTree). first_among (first_in c.args.refusals.now) (function_body_faults (spec_at c.args.site) (class_of c.args.scope.now)
    (with_locals c.args.scope.now (held c.args.locals.now)) f (body_view boxed_view c.args.function.now.body))) wanted_is)
    c.in_ok-refuse_maybe_condition_at.ensures (c.afterwards-after.ensures (held c.args.locals.now)) (ap Some wanted_is) c.refuse_maybe_condition_at-2.ensures
