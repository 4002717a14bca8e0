use Rattle.plans.specs.Plans.{bind}
use Rattle.type_tree.specs.TypeView.{type_view}
use Rattle.std.proofs.Common.{option_map, ap}
use Rattle.node_meaning.specs.Tasks.{with_value}
use Rattle.stmt_meaning.specs.Calls.{value_given}
use Rattle.stmt_meaning.specs.Questions.{of_thread, thread}
use Rattle.fit_steps.specs.Tests.{tested_code}
use Rattle.spec_table.specs.Tables.{table_spec}
use Rattle.step_data.specs.Callings.{calling_of}
use Rattle.call_steps.proofs.Coming.{at_spec}
use Rattle.call_steps.proofs.Leaving.{left_tested}
use Rattle.call_steps.proofs.results.left_with_value.Goals as goal

pub returns-clause-same : goal.returns-clause-same
returns-clause-same c =
    let spec = table_spec c.args.table.now in
    let call = c.args.call.value in
    at_spec spec c.tested_result.new.locals.items c.tested_result.result
    (λ s. bind (tested_code (of_thread s) call.place c.result_tested.new.locals.items c.in_ok-tested.tested) (with_value call.place (value_given (calling_of call)))) _
    c.tested_result.ensures.same
    (left_tested spec call c.deref.result.now c.deref-2.result.now (type_view c.in-Some.declared) c.args.value c.args.locals.now.items
    c.result_tested.new.locals.items c.in_ok-tested.tested c.deref.ensures c.deref-2.ensures (ap (option_map type_view) c.in-Some.is) (c.in_ok-tested.ensures (thread spec)))
