use Rattle.std.proofs.Common.{ap, sym, ◌∙◌}
use Rattle.expr_tree.specs.View.{boxed_view}
use Rattle.class_checks.specs.Operators.{truth}
use Rattle.stmt_scopes.specs.Below.check_scopes.specs.Told.{first_in}
use Rattle.stmt_scopes.specs.Below.check_frames.specs.Meant.{scope_here, spec_here}
use Rattle.stmt_scopes.specs.Refused.{refused}
use Rattle.stmt_exprs.proofs.Wanted.{condition_wanted, wanted_told}
use Rattle.stmt_exprs.proofs.wanting.refuse_given_condition.Goals as goal

pub returns : goal.returns
returns c =
    wanted_told (spec_here c.args.here) (scope_here c.args.here) truth (boxed_view c.args.condition.now) c.place_of.result
    c.in_ok-form.form (first_in c.args.refusals.now) (first_in c.expr_form.new.refusals) (first_in c.want_truth.new.refusals)
    c.in_ok-form.ensures c.place_of.ensures c.want_truth.ensures
    ∙ ap (refused (first_in c.args.refusals.now)) (sym (condition_wanted (spec_here c.args.here) (scope_here c.args.here) (boxed_view c.args.condition.now)))
