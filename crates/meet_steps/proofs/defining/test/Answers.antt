use Rattle.std.proofs.Common.{◌≡◌, ap, sym, ◌∙◌}
use Rattle.plans.specs.Plans.{bind}
use Rattle.node_meaning.specs.Fitting.{fitted_maybe}
use Rattle.node_meaning.specs.Tasks.{Code, with_value}
use Rattle.spec_table.specs.Tables.{table_spec}
use Rattle.stmt_meaning.specs.Questions.{of_thread, thread}
use Rattle.eval_data.specs.Parts.{here_of, maybe_type}
use Rattle.fit_steps.specs.Tests.{tested_code}
use Rattle.step_data.specs.declared.meeting.Defining.{Defining}
use Rattle.step_data.specs.Meetings.{defined_meets, defined_tested}
use Rattle.meet_steps.proofs.Moving.{moved}
use Rattle.meet_steps.proofs.defining.test.Goals as goal

pub returns-clause-same : goal.returns-clause-same
returns-clause-same c =
    let spec = table_spec c.args.table.now in
    let locals = c.args.locals.now.items in
    let between = c.value_tested.new.locals.items in
    let tested = c.in_ok-tested.tested in
    let d = c.args.defining.value in
    let fits : tested_code (of_thread spec) d.place between tested ≡ fitted_maybe spec (here_of d.here).nest (here_of d.here).scope (maybe_type d.declared) d.place c.args.value locals =
    ap (λ (x : Defining). tested_code (of_thread spec) x.place between tested) (sym c.deref.ensures)
    ∙ c.in_ok-tested.ensures (thread spec)
    ∙ ap (λ (x : Defining). fitted_maybe spec (here_of x.here).nest (here_of x.here).scope (maybe_type x.declared) x.place c.args.value locals) c.deref.ensures
    in
    moved spec c.behind_test.new.locals.items c.behind_test.result (bind (tested_code (of_thread spec) d.place between tested) (with_value d.place (defined_meets spec d)))
    (defined_tested spec d c.args.value locals) c.behind_test.ensures.same
    (ap (λ (code : Code). bind code (with_value d.place (defined_meets spec d))) fits)
