use Rattle.std.proofs.Common.{Option, ap, refl, ◌∙◌}
use Rattle.spec_table.specs.Tables.{table_spec}
use Rattle.type_meaning.specs.Tests.{Tests, fitting}
use Rattle.node_meaning.specs.Envs.{type_scope}
use Rattle.node_meaning.specs.Fitting.{as_answer, fit_then}
use Rattle.eval_data.specs.Parts.{asked_type, nest_of}
use Rattle.fit_steps.specs.Tests.{under}
use Rattle.fit_steps.proofs.Wanting.{wanted_as}
use Rattle.fit_steps.proofs.answers.fit_answer.Goals as goal

pub returns : goal.returns
returns c = λ asker.
    let spec = table_spec c.args.table.now in
    c.into_step.ensures (under spec asker) c.judged.new.locals.items ∙ c.in_ok-tested.ensures asker
    ∙ ap (λ (w : Option Tests). fit_then spec (nest_of c.args.nest) c.args.place (as_answer c.args.locals.now.items) (fitting w))
    (wanted_as spec c.in_ok-tests.tests c.args.value.now (type_scope c.args.scope) (type_scope c.args.scope) (asked_type c.args.place c.args.asked) (c.in_ok-tests.ensures c.args.place) refl)
