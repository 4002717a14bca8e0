use Rattle.std.proofs.Common.{Option, ap, ◌∙◌}
use Rattle.type_tree.specs.TypeView.{type_view}
use Rattle.spec_table.specs.Tables.{table_spec}
use Rattle.type_meaning.specs.Tests.{Tests, fitting}
use Rattle.node_meaning.specs.Envs.{type_scope}
use Rattle.node_meaning.specs.Fitting.{fit_then, if_fits}
use Rattle.eval_data.specs.Parts.{nest_of}
use Rattle.fit_steps.proofs.Results.{if_ok}
use Rattle.fit_steps.proofs.Wanting.{wanted_as}
use Rattle.fit_steps.proofs.fitting.fitted.Goals as goal

pub returns : goal.returns
returns c =
    let spec = table_spec c.args.table.now in
    if_ok c.judged.result c.judged.ensures (λ t is asker.
    is asker ∙ ap (λ (w : Option Tests). fit_then spec (nest_of c.args.nest) c.args.place (if_fits c.args.place c.args.value c.args.locals.now.items) (fitting w))
    (wanted_as spec c.in_ok-tests.tests c.args.value c.type_scope.result (type_scope c.args.scope) (type_view c.args.declared.now) c.in_ok-tests.ensures c.type_scope.ensures))
