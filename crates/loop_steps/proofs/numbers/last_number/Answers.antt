use Rattle.std.proofs.Common.{◌≡◌, ap, sym, ◌∙◌, rules, to_z, of_z}
use Rattle.std.specs.Int.{w128}
use Rattle.std.proofs.lemmas.Int.{to_z-of_z}
use Rattle.std.proofs.lemmas.Result.{IfOk-weaker}
use Rattle.step_data.specs.Actions.{behind_last}
use Rattle.flow_values.specs.Came.{number_code}
use Rattle.loop_steps.proofs.numbers.last_number.Goals as goal

pub returns-in-Is-clause-same : goal.returns-in-Is-clause-same
returns-in-Is-clause-same c =
    let place = c.args.rest.place in
    let locals = c.args.locals.now.items in
    let further = behind_last c.args.here c.args.rest c.args.first in
    let first : to_z w128 (of_z w128 c.args.first) ≡ c.args.first = search (rules, to_z-of_z) in
    let last : to_z w128 (of_z w128 c.in-Is.last) ≡ c.in-Is.last = search (rules, to_z-of_z) in
    IfOk-weaker c.counts_to.result _ _ (λ a is spec.
    is spec ∙ (λ i. behind_last c.args.here c.args.rest (first i) (last i) locals)
    ∙ ap (number_code place further locals) (sym c.in-Is.is) ∙ c.number_in.ensures place further locals)
    c.counts_to.ensures.same
