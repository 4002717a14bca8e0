use Rattle.std.proofs.Common.{Bool, false, not, ◌||◌, nat_eq, List, ◌++◌, ap, sym, ◌∙◌}
use Rattle.vdm_kinds.specs.declared.spec_fault.SpecFault.{SpecFault}
use Rattle.vdm_kinds.specs.declared.spec_kind.SpecKind.TheVariants.{WrongArity}
use Rattle.class_checks.specs.Callees.{has_constructor}
use Rattle.class_checks.specs.Members.{may_not_create}
use Rattle.class_checks.specs.Results.{refused_if}
use Rattle.check_fields.specs.Below.check_scopes.specs.Told.{first_in, scope_at, spec_in}
use Rattle.vdm_tree.specs.ClassView.{class_view}
use Rattle.check_names.specs.Noting.{note}
use Rattle.check_names.proofs.Notes.{note_both}
use Rattle.check_calls.proofs.Callees.{calls_of}
use Rattle.check_calls.proofs.created.by_none.Goals as goal

pub returns : goal.returns
returns c =
    let unfit : List SpecFault = refused_if (has_constructor (class_view c.args.class.now) || not (nat_eq c.args.at.count 0)) WrongArity c.args.at.place in
    λ names. let made : List SpecFault = may_not_create (spec_in c.args.setting) (scope_at c.args.setting names) c.args.at.place c.args.setting.scope.now.reach in
    calls_of (first_in c.args.refusals.now) _ _ (made ++ unfit) _ _ c.of_any_arguments.result
    (note_both (first_in c.args.refusals.now) _ _ false _ made unfit (c.may_not_create.ensures names)
    (ap (λ (b : Bool). note (first_in c.may_not_create.new.refusals) (refused_if b WrongArity c.args.at.place)) (sym c.is_unfit-unfit.ensures) ∙ c.spoiled_if-wrong.ensures))
    c.of_any_arguments.ensures.wants (c.of_any_arguments.ensures.form ∙ c.in_ok-result.ensures)
