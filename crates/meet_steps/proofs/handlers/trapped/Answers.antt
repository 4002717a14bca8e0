use Rattle.std.proofs.Common.{ap, sym, ◌∙◌}
use Rattle.expr_tree.specs.View.{pattern_view}
use Rattle.vdm_tree.specs.StmtView.{boxed_stmt}
use Rattle.node_meaning.specs.Matching.{meets}
use Rattle.spec_table.specs.Tables.{table_spec}
use Rattle.stmt_meaning.specs.Flows.{stmt_within}
use Rattle.stmt_meaning.specs.Handlers.{exit_on, trapped}
use Rattle.eval_data.specs.declared.flow.Flow.{Flow}
use Rattle.eval_data.specs.Parts.{flow_of, here_of}
use Rattle.meet_steps.proofs.Moving.{moved}
use Rattle.meet_steps.proofs.handlers.trapped.Goals as goal

pub returns-in-Exited-clause-same : goal.returns-in-Exited-clause-same
returns-in-Exited-clause-same c =
    let spec = table_spec c.args.table.now in
    let here = here_of c.args.here in
    let locals = c.args.locals.now.items in
    let handler = boxed_stmt c.args.handler.now in
    let within = stmt_within here c.args.count handler in
    let goes_on = exit_on c.in-Exited.value c.in-Exited.from in
    moved spec c.meets.new.locals.items c.meets.result (meets spec here c.args.place (pattern_view c.deref.result.now) within goes_on c.in-Exited.value c.truncate.new.self.items)
    (trapped spec here c.args.place (pattern_view c.args.pattern.now.value) handler c.args.count (flow_of c.args.flow locals)) c.meets.ensures.same
    ((λ i. meets spec here c.args.place (pattern_view (c.deref.ensures i)) within goes_on c.in-Exited.value (c.truncate.ensures.items i))
    ∙ ap (λ (flow : Flow). trapped spec here c.args.place (pattern_view c.args.pattern.now.value) handler c.args.count (flow_of flow locals)) (sym c.in-Exited.is))
