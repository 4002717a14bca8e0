use Rattle.std.proofs.Common.{List, ap, sym, ◌∙◌}
use Rattle.abstract_syntax.specs.Expressions.{ExprTree}
use Rattle.expr_tree.specs.View.{boxed_view}
use Rattle.spec_table.specs.Tables.{table_spec}
use Rattle.step_data.specs.Meetings.{met_value}
use Rattle.meet_steps.proofs.Moving.{moved}
use Rattle.meet_steps.proofs.Waits.{brackets_left, brackets_then, next_left, none_left}
use Rattle.meet_steps.proofs.meeting.next_bracket.Goals as goal

pub returns-in-Some-clause-same : goal.returns-in-Some-clause-same
returns-in-Some-clause-same c =
    let spec = table_spec c.args.table.now in
    let locals = c.args.locals.now.items in
    let g = c.args.given.value in
    c.bracket_part.ensures.same spec locals
    ∙ ap (λ (trees : List ExprTree). brackets_then spec g trees g.given.items locals)
    (sym (next_left g c.deref.result.now (boxed_view c.in-Some.tree.now) c.in-Some.next c.deref.ensures c.in-Some.ensures))

pub returns-in-None-clause-same : goal.returns-in-None-clause-same
returns-in-None-clause-same c =
    let spec = table_spec c.args.table.now in
    let locals = c.args.locals.now.items in
    let g = c.args.given.value in
    moved spec c.all_given.new.locals.items c.all_given.result (met_value spec g.meeting g.given.items locals)
    (brackets_then spec g (brackets_left g) g.given.items locals) c.all_given.ensures.same
    (ap (λ (trees : List ExprTree). brackets_then spec g trees g.given.items locals) (sym (none_left g c.deref.result.now c.deref.ensures c.in-None.ensures)))
