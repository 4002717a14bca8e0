use Rattle.std.proofs.Common.{◌∙◌}
use Rattle.expr_tree.specs.View.{boxed_view}
use Rattle.spec_table.specs.Tables.{table_spec}
use Rattle.eval_data.specs.Parts.{boxed_list}
use Rattle.meet_steps.proofs.Waits.{first_lent, waits}
use Rattle.meet_steps.proofs.trying.tried.Goals as goal

pub returns-in-Some-clause-same : goal.returns-in-Some-clause-same
returns-in-Some-clause-same c =
    let spec = table_spec c.args.table.now in
    let locals = c.args.locals.now.items in
    let found = c.in_ok-found.found.items in
    let first = boxed_view c.in-Some.first.now in
    c.in_ok-action-in-Some.ensures.same spec locals
    ∙ waits spec c.args.meeting (boxed_list found) c.in_ok-found.ensures first locals
    (first_lent c.deref.result.now found first c.deref.ensures.value c.in-Some.ensures)
