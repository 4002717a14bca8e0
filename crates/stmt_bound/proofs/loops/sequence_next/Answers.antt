use Rattle.std.proofs.Common.{ap, ◌++◌, ◌∙◌}
use Rattle.vdm_kinds.specs.declared.place.Place.{Place}
use Rattle.abstract_syntax.specs.Expressions.{expr_place}
use Rattle.expr_tree.specs.View.{pattern_view, view_of}
use Rattle.vdm_tree.specs.StmtView.{boxed_stmt}
use Rattle.form_meaning.specs.Forms.{FormTree}
use Rattle.class_checks.specs.Expressions.{givens, want_faults}
use Rattle.class_checks.specs.Operators.{any_sequence}
use Rattle.class_checks.specs.Patterns.{items_of, pattern_faults}
use Rattle.class_checks.specs.Results.{first_among, refusing}
use Rattle.class_checks.specs.Scopes.{type_scope}
use Rattle.spec_checks.specs.Statements.{check_stmt, inside_pattern}
use Rattle.stmt_pending.specs.Below.check_scopes.specs.Told.{first_in}
use Rattle.stmt_pending.specs.Below.check_frames.specs.Meant.{spec_here}
use Rattle.stmt_pending.specs.Below.stmt_scopes.specs.Refused.{refused}
use Rattle.stmt_pending.specs.Below.stmt_scopes.specs.Standing.{standing_of, stands_here}
use Rattle.stmt_pending.specs.Parts.{refused_both, refused_form, refused_pattern}
use Rattle.stmt_pending.specs.Steps.{next_inside}
use Rattle.stmt_bound.proofs.Begun.{sequence_begun}
use Rattle.stmt_bound.proofs.loops.sequence_next.Goals as goal

pub returns : goal.returns
returns c = λ place.
    let spec = spec_here c.args.stands.here in
    let scope = stands_here c.args.stands in
    let pattern = pattern_view c.args.pattern.now.value in
    let body = boxed_stmt c.args.body.now in
    let form = c.in_ok-form.form in
    let at = expr_place (view_of c.args.sequence.now.value) in
    let one = first_in c.form_here.new.refusals in
    let two = first_in c.want_kind.new.refusals in
    let later = first_in c.refuse_pattern.new.refusals in
    let rest = check_stmt spec (inside_pattern spec scope (items_of spec form) pattern) body in
    next_inside c.args.stands.here.setting c.args.stands.returned.now c.next_in.result
    (inside_pattern spec scope (items_of spec form) pattern) (standing_of c.args.stands c.in_ok-inside.inside) body later _
    (ap (refused (first_in c.args.refusals.now)) (sequence_begun spec scope pattern (view_of c.args.sequence.now.value) body place)
    ∙ refused_form spec scope.within c.args.sequence.now.value c.deref.result.now form (first_in c.args.refusals.now) one
    (λ (f : FormTree). refusing (want_faults spec any_sequence at f ++ pattern_faults spec (type_scope scope.within) pattern)
    (givens spec scope.within pattern (check_stmt spec (inside_pattern spec scope (items_of spec f) pattern) body)))
    c.deref.ensures c.in_ok-form.ensures
    ∙ refused_both one two (want_faults spec any_sequence at form) (pattern_faults spec (type_scope scope.within) pattern) (givens spec scope.within pattern rest)
    (c.want_kind.ensures ∙ ap (λ (p : Place). first_among one (want_faults spec any_sequence p form)) c.place_of.ensures)
    ∙ refused_pattern spec scope.within pattern two later rest c.in_ok-refuse_pattern.ensures)
    (c.in_ok-inside.ensures ∙ ap (λ (f : FormTree). inside_pattern spec scope f pattern) c.in_ok-items.ensures)
    (c.next_in.ensures c.args.stands.here.setting c.args.stands.returned.now)
