use Rattle.std.proofs.Common.{◌∙◌}
use Rattle.expr_tree.specs.View.{boxed_view}
use Rattle.plans.specs.Plans.{part}
use Rattle.node_meaning.specs.Choosing.{with_elements}
use Rattle.node_meaning.specs.Envs.{at}
use Rattle.node_meaning.specs.Tasks.{expr_in, with_value}
use Rattle.eval_data.specs.Parts.{here_of}
use Rattle.eval_data.specs.Steps.{source_at, sets_behind}
use Rattle.search_steps.proofs.Sources.{set_next}
use Rattle.search_steps.proofs.sets.set_frame.Goals as goal

pub returns : goal.returns
returns c = λ setting locals.
    (λ i. part (expr_in (at (here_of c.args.sets.value.here) locals) (boxed_view c.args.source.set.now))
    (with_value (c.deref.ensures i).place
    (with_elements (source_at c.args.sets.value).0 (source_at c.args.sets.value).1 c.args.sets.value.lists.items
    (sets_behind setting.spec c.args.sets.value))))
    ∙ set_next setting.spec c.args.sets.value c.args.source locals c.requires
