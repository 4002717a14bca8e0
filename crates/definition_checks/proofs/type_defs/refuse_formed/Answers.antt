use Rattle.std.proofs.Common.{ap}
use Rattle.expr_tree.specs.TypeDefView.{invariant_view, type_body_view}
use Rattle.form_meaning.specs.Forms.{FormTree}
use Rattle.spec_checks.specs.Definitions.{body_form}
use Rattle.part_checks.specs.Below.check_scopes.specs.Told.{first_in, scope_view}
use Rattle.part_checks.specs.Below.definition_scopes.specs.Standing.{spec_at}
use Rattle.part_checks.specs.Behind.{on_same}
use Rattle.definition_checks.specs.Parts.{class_of, invariant_in}
use Rattle.definition_checks.proofs.type_defs.refuse_formed.Goals as goal

pub returns : goal.returns
returns c =
    on_same c.refuse_invariant.result (first_in c.args.refusals.now) (first_in c.refuse_invariant.new.refusals)
    (invariant_in (spec_at c.args.site) (scope_view c.args.scope.now) c.in_ok-form.form (invariant_view c.args.invariant.now))
    (invariant_in (spec_at c.args.site) (scope_view c.args.scope.now)
    (body_form (spec_at c.args.site) (class_of c.args.scope.now) c.args.definition.now.name (type_body_view c.args.definition.now.body))
    (invariant_view c.args.invariant.now))
    (ap (λ (form : FormTree). invariant_in (spec_at c.args.site) (scope_view c.args.scope.now) form (invariant_view c.args.invariant.now)) c.in_ok-form.ensures)
    c.refuse_invariant.ensures
