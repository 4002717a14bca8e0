use Rattle.std.proofs.Common.{[], ◌∷◌, ◌++◌}
use Rattle.spec_table.specs.Tables.{table_spec}
use Rattle.call_steps.proofs.Coming.{moved}
use Rattle.call_steps.proofs.Waits.{brackets_left, brackets_then, with_value_more}
use Rattle.call_steps.proofs.parameters.bracket_came.Goals as goal

pub returns-clause-same : goal.returns-clause-same
returns-clause-same c =
    let spec = table_spec c.args.table.now in
    let locals = c.args.locals.now.items in
    let b = c.args.binding.value in
    let more = c.add_value.new.binding in
    moved spec c.next_bracket.new.locals.items c.next_bracket.result (brackets_then spec more (brackets_left more) more.given.items locals)
    (brackets_then spec b (brackets_left b) (b.given.items ++ c.args.value ∷ []) locals) c.next_bracket.ensures.same
    (with_value_more spec b c.deref_mut.result.now more c.args.value locals c.deref_mut.ensures.value c.in_ok-add_value.ensures.kept c.in_ok-add_value.ensures.added)
