use Rattle.std.proofs.Common.{List, ap, sym, ◌∙◌}
use Rattle.abstract_syntax.specs.Expressions.{ExprTree}
use Rattle.expr_tree.specs.View.{boxed_view}
use Rattle.stmt_meaning.specs.Calls.{bound}
use Rattle.spec_table.specs.Tables.{table_spec}
use Rattle.step_data.specs.Callings.{calling_of}
use Rattle.call_steps.proofs.Coming.{moved}
use Rattle.call_steps.proofs.Waits.{brackets_left, brackets_then, next_left, none_left}
use Rattle.call_steps.proofs.parameters.next_bracket.Goals as goal

pub returns-in-Some-clause-same : goal.returns-in-Some-clause-same
returns-in-Some-clause-same c =
    let spec = table_spec c.args.table.now in
    let locals = c.args.locals.now.items in
    let b = c.args.binding.value in
    c.bracket_part.ensures.same spec locals
    ∙ ap (λ (trees : List ExprTree). brackets_then spec b trees b.given.items locals)
    (sym (next_left b c.deref.result.now (boxed_view c.in-Some.tree.now) c.in-Some.next c.deref.ensures c.in-Some.ensures))

pub returns-in-None-clause-same : goal.returns-in-None-clause-same
returns-in-None-clause-same c =
    let spec = table_spec c.args.table.now in
    let locals = c.args.locals.now.items in
    let b = c.args.binding.value in
    moved spec c.all_given.new.locals.items c.all_given.result (bound spec (calling_of b.call.value) b.given.items locals)
    (brackets_then spec b (brackets_left b) b.given.items locals) c.all_given.ensures.same
    (ap (λ (trees : List ExprTree). brackets_then spec b trees b.given.items locals) (sym (none_left b c.deref.result.now c.deref.ensures c.in-None.ensures)))
