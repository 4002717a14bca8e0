use Rattle.std.proofs.Common.{◌≡◌, length, reverse, ap, ◌∙◌, rules}
use Rattle.std.proofs.lemmas.List.{reverse-reverse}
use Rattle.expr_tree.specs.View.{pattern_view}
use Rattle.vdm_tree.specs.StmtView.{boxed_stmt}
use Rattle.spec_table.specs.Tables.{table_spec}
use Rattle.stmt_meaning.specs.Loops.{each_element}
use Rattle.eval_data.specs.Parts.{here_of}
use Rattle.meet_steps.specs.Onwards.{onward_code}
use Rattle.meet_steps.proofs.Moving.{moved}
use Rattle.meet_steps.proofs.elements.in_order.Goals as goal

pub returns-clause-same : goal.returns-clause-same
returns-clause-same c =
    let spec = table_spec c.args.table.now in
    let here = here_of c.args.here in
    let body = boxed_stmt c.args.body.now in
    let locals = c.args.locals.now.items in
    let count : c.len.result ≡ length locals = search rules in
    let order = ap reverse c.reverse.ensures.items ∙ reverse-reverse c.args.values.items in
    moved spec c.followed.new.locals.items c.followed.result (onward_code spec locals c.element_behind-onward.result)
    (each_element spec here c.args.place (pattern_view c.args.pattern.now.value) body (length locals) c.args.values.items locals) c.followed.ensures.same
    (c.element_behind-onward.ensures.same spec locals
    ∙ (λ i. each_element spec here c.args.place (pattern_view (c.deref.ensures i)) body (count i) (order i) locals))
