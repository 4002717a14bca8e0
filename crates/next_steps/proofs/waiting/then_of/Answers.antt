use Rattle.std.proofs.Common.{◌≡◌, ap, sym, ◌∙◌, rules, to_z, of_z}
use Rattle.std.specs.Int.{w128}
use Rattle.std.proofs.lemmas.Int.{to_z-of_z}
use Rattle.eval_data.specs.Parts.{flow_of}
use Rattle.step_data.specs.declared.waiting.Waiting.{Waiting}
use Rattle.step_data.specs.declared.waiting.Waiting.TheVariants.{Last, By}
use Rattle.step_data.specs.Actions.{waiting_then}
use Rattle.spec_table.specs.Tables.{table_spec}
use Rattle.next_steps.proofs.Answering.{at_this}
use Rattle.next_steps.proofs.waiting.then_of.Goals as goal

pub returns-in-Last-clause-same : goal.returns-in-Last-clause-same
returns-in-Last-clause-same c =
    let spec = table_spec c.args.table.now in
    let flow = flow_of c.args.flow c.args.locals.now.items in
    let first : to_z w128 (of_z w128 c.in-Last.first) ≡ c.in-Last.first = search (rules, to_z-of_z) in
    at_this spec c.last_number.result c.last_number.new.locals.items _ _ c.last_number.ensures.same
    ((λ i. waiting_then spec (Last c.in-Last.here c.in-Last.rest (first i)) flow) ∙ ap (λ (w : Waiting). waiting_then spec w flow) (sym c.in-Last.is))

pub returns-in-By-clause-same : goal.returns-in-By-clause-same
returns-in-By-clause-same c =
    let spec = table_spec c.args.table.now in
    let flow = flow_of c.args.flow c.args.locals.now.items in
    let first : to_z w128 (of_z w128 c.in-By.first) ≡ c.in-By.first = search (rules, to_z-of_z) in
    let last : to_z w128 (of_z w128 c.in-By.last) ≡ c.in-By.last = search (rules, to_z-of_z) in
    at_this spec c.by_number.result c.by_number.new.locals.items _ _ c.by_number.ensures.same
    ((λ i. waiting_then spec (By c.in-By.here c.in-By.rest (first i) (last i)) flow) ∙ ap (λ (w : Waiting). waiting_then spec w flow) (sym c.in-By.is))
