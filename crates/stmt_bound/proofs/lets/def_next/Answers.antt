use Rattle.std.proofs.Common.{ap, ◌∙◌}
use Rattle.expr_tree.specs.View.{pattern_view, view_of}
use Rattle.vdm_tree.specs.StmtView.{boxed_stmt}
use Rattle.form_meaning.specs.Forms.{FormTree}
use Rattle.class_checks.specs.Expressions.{givens}
use Rattle.class_checks.specs.Patterns.{pattern_faults}
use Rattle.class_checks.specs.Results.{refusing}
use Rattle.class_checks.specs.Scopes.{type_scope}
use Rattle.spec_checks.specs.Statements.{check_stmt, inside_pattern}
use Rattle.stmt_pending.specs.Below.check_scopes.specs.Told.{first_in}
use Rattle.stmt_pending.specs.Below.check_frames.specs.Meant.{spec_here}
use Rattle.stmt_pending.specs.Below.stmt_scopes.specs.Refused.{refused}
use Rattle.stmt_pending.specs.Below.stmt_scopes.specs.Standing.{standing_of, stands_here}
use Rattle.stmt_pending.specs.Parts.{refused_form, refused_pattern}
use Rattle.stmt_pending.specs.Steps.{next_inside}
use Rattle.stmt_bound.proofs.Begun.{def_begun}
use Rattle.stmt_bound.proofs.lets.def_next.Goals as goal

pub returns : goal.returns
returns c = λ place.
    let spec = spec_here c.args.stands.here in
    let scope = stands_here c.args.stands in
    let pattern = pattern_view c.args.pattern.now.value in
    let body = boxed_stmt c.args.body.now in
    let middle = first_in c.form_here.new.refusals in
    let later = first_in c.refuse_pattern.new.refusals in
    next_inside c.args.stands.here.setting c.args.stands.returned.now c.next_in.result
    (inside_pattern spec scope c.in_ok-form.form pattern) (standing_of c.args.stands c.in_ok-inside.inside) body later _
    (ap (refused (first_in c.args.refusals.now)) (def_begun spec scope pattern (view_of c.args.value.now.value) body place)
    ∙ refused_form spec scope.within c.args.value.now.value c.deref.result.now c.in_ok-form.form (first_in c.args.refusals.now) middle
    (λ (form : FormTree). refusing (pattern_faults spec (type_scope scope.within) pattern) (givens spec scope.within pattern (check_stmt spec (inside_pattern spec scope form pattern) body)))
    c.deref.ensures c.in_ok-form.ensures
    ∙ refused_pattern spec scope.within pattern middle later _ c.in_ok-refuse_pattern.ensures)
    c.in_ok-inside.ensures
    (c.next_in.ensures c.args.stands.here.setting c.args.stands.returned.now)
