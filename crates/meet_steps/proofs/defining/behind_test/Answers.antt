use Rattle.std.proofs.Common.{ap, sym}
use Rattle.plans.specs.Plans.{bind}
use Rattle.node_meaning.specs.Tasks.{with_value}
use Rattle.spec_table.specs.Tables.{table_spec}
use Rattle.stmt_meaning.specs.Questions.{of_thread}
use Rattle.fit_steps.specs.declared.tested.Tested.{Tested}
use Rattle.fit_steps.specs.Tests.{tested_code}
use Rattle.step_data.specs.declared.waiting.Waiting.TheVariants.{DefinedFits}
use Rattle.step_data.specs.Actions.{nested}
use Rattle.step_data.specs.Meetings.{defined_meets}
use Rattle.meet_steps.proofs.Moving.{at_these, moved}
use Rattle.meet_steps.proofs.defining.behind_test.Goals as goal

pub returns-in-Gives-clause-same : goal.returns-in-Gives-clause-same
returns-in-Gives-clause-same c =
    let spec = table_spec c.args.table.now in
    let locals = c.args.locals.now.items in
    let d = c.args.defining.value in
    let whole = λ (t : Tested). bind (tested_code (of_thread spec) d.place locals t) (with_value d.place (defined_meets spec d)) in
    moved spec c.fits.new.locals.items c.fits.result (defined_meets spec d c.in-Gives.value locals) (whole c.args.tested) c.fits.ensures.same
    (ap whole (sym c.in-Gives.is))

pub returns-clause-same : goal.returns-clause-same
returns-clause-same c =
    let spec = table_spec c.args.table.now in
    let locals = c.args.locals.now.items in
    let d = c.args.defining.value in
    let whole = λ (t : Tested). bind (tested_code (of_thread spec) d.place locals t) (with_value d.place (defined_meets spec d)) in
    at_these spec locals c.fit.result (λ s l. nested s l c.in-Asks.inside c.in-Asks.tree c.in-Asks.inner (DefinedFits c.args.defining)) (whole c.args.tested)
    c.fit.ensures.same (ap whole (sym c.in-Asks.is))
