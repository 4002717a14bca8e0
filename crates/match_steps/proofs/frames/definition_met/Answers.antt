use Rattle.std.proofs.Common.{ap, ◌∙◌}
use Rattle.std.proofs.lemmas.Result.{IfOk-weaker}
use Rattle.plans.specs.Plans.{bind}
use Rattle.spec_table.specs.Tables.{table_spec}
use Rattle.node_meaning.specs.Tasks.{Code, with_value}
use Rattle.eval_data.specs.declared.matching.Met.TheVariants.{Definition}
use Rattle.eval_data.specs.Steps.{meets_with}
use Rattle.match_steps.proofs.frames.definition_met.Goals as goal

pub returns : goal.returns
returns c =
    IfOk-weaker c.behind_test.result _ _ (λ s is asker.
    is asker ∙ ap (λ (p : Code). bind p (with_value c.args.place (meets_with (table_spec c.args.table.now) (Definition c.args.here c.args.definition) c.args.place))) (c.in_ok-tested.ensures asker))
    c.behind_test.ensures
