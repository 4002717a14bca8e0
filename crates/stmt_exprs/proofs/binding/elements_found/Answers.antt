use Rattle.std.proofs.Common.{List, ap, map, ◌∙◌}
use Rattle.expr_tree.specs.View.{boxed_view}
use Rattle.class_checks.specs.Expressions.{bound_in}
use Rattle.stmt_scopes.specs.Below.check_patterns.specs.Shown.{local_view, patterns_of}
use Rattle.stmt_scopes.specs.Below.check_patterns.specs.declared.local_form.LocalForm.{LocalForm as Local}
use Rattle.stmt_scopes.specs.Below.check_scopes.specs.Told.{first_in}
use Rattle.stmt_scopes.specs.Below.check_frames.specs.Meant.{scope_here, spec_here}
use Rattle.stmt_scopes.specs.Refused.{if_ok}
use Rattle.stmt_exprs.proofs.Behinds.{found_told}
use Rattle.stmt_exprs.proofs.binding.elements_found.Goals as goal

pub returns : goal.returns
returns c =
    let spec = spec_here c.args.here in
    let scope = scope_here c.args.here in
    if_ok c.with_elements.result c.with_elements.ensures (λ all is rest.
    found_told spec scope (patterns_of c.args.patterns) (boxed_view c.args.set.now) c.place_of.result c.in_ok-form.form (map local_view all.items)
    (first_in c.args.refusals.now) (first_in c.expr_form.new.refusals) (first_in c.set_faults.new.refusals) (first_in c.refuse_givens.new.refusals) rest
    c.in_ok-form.ensures c.place_of.ensures c.in_ok-set_faults.ensures c.in_ok-refuse_givens.ensures
    (is ∙ ap (λ (before : List Local). bound_in spec scope (map local_view before) (patterns_of c.args.patterns) c.in_ok-form.form) c.new.ensures.items))
