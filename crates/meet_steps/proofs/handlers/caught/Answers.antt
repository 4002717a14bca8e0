use Rattle.std.proofs.Common.{ap, sym, ◌∙◌}
use Rattle.spec_table.specs.Tables.{table_spec}
use Rattle.stmt_meaning.specs.Handlers.{caught, handled_by}
use Rattle.eval_data.specs.declared.flow.Flow.{Flow}
use Rattle.eval_data.specs.Parts.{flow_of, here_of}
use Rattle.step_data.specs.Parts.{handlers_of}
use Rattle.meet_steps.specs.Onwards.{onward_code}
use Rattle.meet_steps.proofs.Moving.{moved}
use Rattle.meet_steps.proofs.handlers.caught.Goals as goal

pub returns-in-Exited-clause-same : goal.returns-in-Exited-clause-same
returns-in-Exited-clause-same c =
    let spec = table_spec c.args.table.now in
    let here = here_of c.args.here in
    let locals = c.args.locals.now.items in
    let cut = c.truncate.new.self.items in
    let all = handlers_of c.args.handlers.now in
    moved spec c.followed.new.locals.items c.followed.result (onward_code spec cut c.next_handler-onward.result) (caught spec here c.args.place all c.args.count (flow_of c.args.flow locals))
    c.followed.ensures.same
    (c.next_handler-onward.ensures.same spec cut
    ∙ ap (handled_by spec here c.args.place all c.args.count all c.in-Exited.value c.in-Exited.from) c.truncate.ensures.items
    ∙ ap (λ (flow : Flow). caught spec here c.args.place all c.args.count (flow_of flow locals)) (sym c.in-Exited.is))
