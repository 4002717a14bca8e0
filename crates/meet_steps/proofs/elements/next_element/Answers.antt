use Rattle.std.proofs.Common.{reverse, take, ap, sym, ◌∙◌}
use Rattle.expr_tree.specs.View.{pattern_view}
use Rattle.vdm_tree.specs.StmtView.{boxed_stmt}
use Rattle.spec_table.specs.Tables.{table_spec}
use Rattle.stmt_meaning.specs.Loops.{each_element}
use Rattle.eval_data.specs.declared.flow.Flow.{Flow}
use Rattle.eval_data.specs.Parts.{flow_of, here_of}
use Rattle.step_data.specs.declared.meeting.Elements.{Elements}
use Rattle.step_data.specs.Meetings.{element_then}
use Rattle.meet_steps.proofs.Moving.{moved}
use Rattle.meet_steps.proofs.elements.next_element.Goals as goal

pub returns-in-Next-clause-same : goal.returns-in-Next-clause-same
returns-in-Next-clause-same c =
    let spec = table_spec c.args.table.now in
    let locals = c.args.locals.now.items in
    let e = c.args.elements.value in
    let left = each_element spec (here_of e.here) e.place (pattern_view e.pattern.now) (boxed_stmt e.body.now) e.count (reverse e.values.items) in
    moved spec c.elements_left.new.locals.items c.elements_left.result (left c.truncate.new.self.items) (element_then spec e (flow_of c.args.flow locals))
    c.elements_left.ensures.same
    (ap left (c.truncate.ensures.items ∙ ap (λ (x : Elements). take x.count locals) c.deref.ensures)
    ∙ ap (λ (flow : Flow). element_then spec e (flow_of flow locals)) (sym c.in-Next.is))
