use Rattle.std.proofs.Common.{length, ap, ◌∙◌}
use Rattle.vdm_values.specs.Tree.{tree_of}
use Rattle.expr_tree.specs.View.{pattern_view}
use Rattle.vdm_tree.specs.StmtView.{boxed_stmt}
use Rattle.spec_table.specs.Tables.{table_spec}
use Rattle.stmt_meaning.specs.Loops.{each_element, each_of_set}
use Rattle.eval_data.specs.Parts.{here_of}
use Rattle.meet_steps.proofs.Moving.{moved}
use Rattle.meet_steps.proofs.Values.{of_set}
use Rattle.meet_steps.proofs.elements.in_set.Goals as goal

pub returns-in-Set-clause-same : goal.returns-in-Set-clause-same
returns-in-Set-clause-same c =
    let spec = table_spec c.args.table.now in
    let here = here_of c.args.here in
    let pattern = pattern_view c.args.pattern.now.value in
    let body = boxed_stmt c.args.body.now in
    let locals = c.args.locals.now.items in
    let vs = c.in-Set.values.items in
    moved spec c.in_order.new.locals.items c.in_order.result (each_element spec here c.args.place pattern body (length locals) vs locals)
    (each_of_set spec here c.args.place pattern body c.args.value locals) c.in_order.ensures.same
    (of_set spec here c.args.place pattern body locals c.args.value vs (c.in_ok-node.ensures.tree ∙ ap tree_of c.in-Set.is))
