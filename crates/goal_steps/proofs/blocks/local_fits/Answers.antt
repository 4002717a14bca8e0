use Rattle.std.proofs.Common.{ap}
use Rattle.stmt_meaning.specs.Blocks.{local_value}
use Rattle.step_data.specs.declared.block.Declaring.{Declaring}
use Rattle.step_data.specs.Declarations.{locals_left}
use Rattle.goal_steps.proofs.Coming.{value_came_by}
use Rattle.goal_steps.proofs.Moving.{at_any}
use Rattle.goal_steps.proofs.blocks.local_fits.Goals as goal

pub returns-in-Is-clause-same : goal.returns-in-Is-clause-same
returns-in-Is-clause-same c =
    let d = c.args.declaring.value in
    let locals = c.args.locals.now.items in
    let after = c.local_held.new.locals.items in
    let v = c.in-Is.value in
    value_came_by c.value_in.result c.args.flow v c.in-Is.is c.value_in.ensures d.place (λ spec. local_value d.name (locals_left spec d)) locals after
    c.local_held.result
    (at_any after c.local_held.result (λ spec. local_value c.into_inner.result.name (locals_left spec c.into_inner.result) v locals)
    (λ spec. local_value d.name (locals_left spec d) v locals) c.local_held.ensures.same
    (λ spec. ap (λ (e : Declaring). local_value e.name (locals_left spec e) v locals) c.into_inner.ensures))
