use Rattle.std.proofs.Common.{ap, ◌∙◌}
use Rattle.abstract_syntax.specs.Expressions.{expr_place}
use Rattle.expr_tree.specs.View.{boxed_view, view_of}
use Rattle.expr_tree.specs.declared.expr.Expr.{Expr}
use Rattle.spec_checks.specs.Definitions.{in_range_faults, number_of}
use Rattle.class_checks.specs.Expressions.{check}
use Rattle.class_checks.specs.Results.{first_among}
use Rattle.part_checks.specs.Below.check_scopes.specs.Told.{first_in, types_in}
use Rattle.part_checks.specs.Below.check_frames.specs.Meant.{scope_here, spec_here}
use Rattle.sync_checks.proofs.Noted.{both}
use Rattle.sync_checks.proofs.numbers.refuse_tick.Goals as goal

pub returns : goal.returns
returns c =
    let spec = spec_here c.args.here in
    let class = types_in c.args.here.setting in
    let tree = boxed_view c.args.expr.now in
    let middle = first_in c.refuse_expr.new.refusals in
    both (first_in c.args.refusals.now) middle (first_in c.refuse_out_of_range.new.refusals)
    (check spec (scope_here c.args.here) tree).refusals
    (in_range_faults spec class c.args.bounds.least c.args.bounds.greatest (expr_place tree) (number_of spec class tree))
    c.in_ok-refuse_expr.ensures
    (c.refuse_out_of_range.ensures spec class
    ∙ (λ i. first_among middle (in_range_faults spec class c.args.bounds.least c.args.bounds.greatest
    ((c.place.ensures ∙ ap (λ (e : Expr). expr_place (view_of e)) c.deref-2.ensures) i)
    ((c.number_of-number.ensures ∙ ap (λ (e : Expr). number_of spec class (view_of e)) c.deref.ensures) i))))
