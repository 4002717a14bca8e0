use Rattle.std.proofs.Common.{true, false}
use Rattle.expr_tree.specs.TypeDefView.{type_def_view}
use Rattle.spec_table.specs.Tables.{table_spec}
use Rattle.fit_steps.proofs.Results.{if_ok}
use Rattle.fit_steps.proofs.Turns.{asked_boxed, decided_so}
use Rattle.fit_steps.proofs.advancing.advanced.Goals as goal

pub returns-in-Holds : goal.returns-in-Holds
returns-in-Holds c = λ asker.
    let spec = table_spec c.args.table.now in
    decided_so spec asker c.held.new.locals.items c.held.result c.args.asking c.next_turn.new.asking true c.in_ok-next_turn.ensures.kept
    (rw c.in-Holds.is at c.in_ok-next_turn.ensures.turned) (c.held.ensures spec asker)

pub returns-in-Fails : goal.returns-in-Fails
returns-in-Fails c = λ asker.
    let spec = table_spec c.args.table.now in
    decided_so spec asker c.failed.new.locals.items c.failed.result c.args.asking c.next_turn.new.asking false c.in_ok-next_turn.ensures.kept
    (rw c.in-Fails.is at c.in_ok-next_turn.ensures.turned) (c.failed.ensures spec asker)

pub returns-in_ok-asking-in-Asks : goal.returns-in_ok-asking-in-Asks
returns-in_ok-asking-in-Asks c =
    let spec = table_spec c.args.table.now in
    if_ok c.asked.result c.asked.ensures (λ t is asker.
    asked_boxed spec asker c.asked.new.locals.items t c.args.asking c.next_turn.new.asking c.in_ok-asking-in-Asks.asking.value (type_def_view c.in-Asks.definition.now) c.in-Asks.value
    c.in_ok-asking-in-Asks.ensures.ok c.in_ok-next_turn.ensures.kept (rw c.in-Asks.is at c.in_ok-next_turn.ensures.turned) (is asker))
