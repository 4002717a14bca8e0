use Rattle.std.proofs.Common.{◌∙◌, rules}
use Rattle.stmt_meaning.specs.Calls.{pre_decided}
use Rattle.step_data.specs.Callings.{calling_of}
use Rattle.call_steps.proofs.Coming.{truth_came, truth_failed}
use Rattle.call_steps.proofs.bodies.pre_came.Goals as goal

pub returns-in-Is-clause-same : goal.returns-in-Is-clause-same
returns-in-Is-clause-same c = λ spec.
    c.pre_decided.ensures.same spec c.args.locals.now (search rules)
    ∙ truth_came c.truth_in.result c.args.flow c.in-Is.holds c.in-Is.is c.truth_in.ensures c.args.call.value.place
    (pre_decided spec (calling_of c.args.call.value)) c.args.locals.now

pub returns-in-Fails-clause-same : goal.returns-in-Fails-clause-same
returns-in-Fails-clause-same c = λ spec.
    truth_failed c.truth_in.result c.args.flow c.in-Fails.fault c.in-Fails.is c.truth_in.ensures c.args.call.value.place _
    (pre_decided spec (calling_of c.args.call.value)) c.args.locals.now (search rules)
