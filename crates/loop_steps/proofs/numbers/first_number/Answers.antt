use Rattle.std.proofs.Common.{◌≡◌, ap, sym, ◌∙◌, rules, to_z, of_z}
use Rattle.std.specs.Int.{w128}
use Rattle.std.proofs.lemmas.Int.{to_z-of_z}
use Rattle.step_data.specs.Actions.{behind_first}
use Rattle.flow_values.specs.Came.{number_code}
use Rattle.loop_steps.proofs.numbers.first_number.Goals as goal

pub returns-in-Is-clause-same : goal.returns-in-Is-clause-same
returns-in-Is-clause-same c = λ spec locals.
    let place = c.args.rest.place in
    let further = behind_first c.args.here c.args.rest in
    let same : to_z w128 (of_z w128 c.in-Is.first) ≡ c.in-Is.first = search (rules, to_z-of_z) in
    c.counts_on.ensures.same spec locals
    ∙ (λ i. further (same i) locals) ∙ ap (number_code place further locals) (sym c.in-Is.is) ∙ c.number_in.ensures place further locals
