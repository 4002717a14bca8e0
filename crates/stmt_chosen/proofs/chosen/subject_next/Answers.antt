use Rattle.std.proofs.Common.{List, ap, map, sym, ◌∙◌}
use Rattle.expr_tree.specs.View.{view_of}
use Rattle.vdm_tree.specs.StmtView.{maybe_stmt, stmt_case_trees, stmt_case_view}
use Rattle.vdm_tree.specs.declared.stmt.StmtCase.{StmtCase}
use Rattle.form_meaning.specs.Forms.{FormTree}
use Rattle.spec_checks.specs.Statements.{stmt_cases}
use Rattle.stmt_pending.specs.Below.check_scopes.specs.Told.{first_in}
use Rattle.stmt_pending.specs.Below.check_frames.specs.Meant.{spec_here}
use Rattle.stmt_pending.specs.Below.stmt_scopes.specs.Refused.{refused}
use Rattle.stmt_pending.specs.Below.stmt_scopes.specs.Standing.{stands_here}
use Rattle.stmt_pending.specs.Meant.{last_check}
use Rattle.stmt_pending.specs.Parts.{refused_form}
use Rattle.stmt_pending.specs.Steps.{next_behind}
use Rattle.stmt_chosen.proofs.Begun.{cases_begun}
use Rattle.stmt_chosen.proofs.chosen.subject_next.Goals as goal

pub returns : goal.returns
returns c = λ place.
    let spec = spec_here c.args.stands.here in
    let scope = stands_here c.args.stands in
    let last = last_check spec scope (maybe_stmt c.args.others.now) in
    let middle = first_in c.form_here.new.refusals in
    next_behind c.args.stands.here.setting c.args.stands.returned.now c.cases_next.result _ _ (first_in c.cases_next.new.refusals)
    (ap (refused (first_in c.args.refusals.now)) (cases_begun spec scope (view_of c.args.subject.now.value) (stmt_case_trees (map stmt_case_view c.args.cases.now.items)) (maybe_stmt c.args.others.now) place)
    ∙ refused_form spec scope.within c.args.subject.now.value c.deref.result.now c.in_ok-form.form (first_in c.args.refusals.now) middle
    (λ (form : FormTree). stmt_cases spec scope form (stmt_case_trees (map stmt_case_view c.args.cases.now.items)) last)
    c.deref.ensures c.in_ok-form.ensures
    ∙ ap (λ (cs : List StmtCase). refused middle (stmt_cases spec scope c.in_ok-form.form (stmt_case_trees (map stmt_case_view cs)) last)) (sym c.as_slice-cases.ensures.value))
    c.cases_next.ensures
