use Rattle.std.proofs.Common.{◌∙◌}
use Rattle.std.proofs.lemmas.Result.{IfOk-weaker}
use Rattle.spec_table.specs.Tables.{table_spec}
use Rattle.fit_steps.specs.Tests.{under}
use Rattle.function_steps.proofs.GivenResults.{given_so}
use Rattle.function_steps.proofs.results.result_given.Goals as goal

pub returns : goal.returns
returns c =
    let spec = table_spec c.args.table.now in
    IfOk-weaker c.behind_test.result _ _ (λ s is asker.
    is (under spec asker)
    ∙ given_so spec c.args.applying.value c.deref.result.now c.deref-2.result.now c.args.value c.args.locals.now.items c.result_tested.new.locals.items c.in_ok-tested.tested asker
    c.deref.ensures c.deref-2.ensures (c.in_ok-tested.ensures asker)) c.behind_test.ensures
