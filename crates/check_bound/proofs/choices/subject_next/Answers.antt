use Rattle.std.proofs.Common.{List, ap, map, sym, ◌∙◌}
use Rattle.expr_tree.specs.View.{case_view, maybe_view}
use Rattle.expr_tree.specs.declared.parts.Case.{Case}
use Rattle.form_meaning.specs.Forms.{FormTree, no_form}
use Rattle.class_checks.specs.Expressions.{check}
use Rattle.class_checks.specs.Results.{after}
use Rattle.check_frames.specs.Below.check_scopes.specs.Told.{spec_in}
use Rattle.check_frames.specs.Meant.{boxed, cases_check, scope_here}
use Rattle.check_frames.specs.Steps.{onward}
use Rattle.check_bound.proofs.Begun.{cases_begun}
use Rattle.check_bound.proofs.choices.subject_next.Goals as goal

pub returns : goal.returns
returns c =
    λ place. onward c.args.here.setting c.part_of.result _ _
    (cases_begun c.args.here.setting (scope_here c.args.here) (boxed c.args.subject) (map case_view c.args.cases.now.items) (maybe_view c.args.others.now) place
    ∙ ap (λ (cs : List Case). after (check (spec_in c.args.here.setting) (scope_here c.args.here) (boxed c.args.subject)) (λ (form : FormTree). cases_check c.args.here.setting (scope_here c.args.here) form no_form (map case_view cs) (maybe_view c.args.others.now))) (sym c.as_slice.ensures.value))
    c.part_of.ensures
