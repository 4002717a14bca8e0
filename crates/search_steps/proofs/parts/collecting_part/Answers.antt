use Rattle.std.proofs.Common.{ap, ◌∙◌}
use Rattle.expr_tree.specs.View.{boxed_view}
use Rattle.plans.specs.Plans.{part}
use Rattle.node_meaning.specs.Envs.{at}
use Rattle.node_meaning.specs.Tasks.{expr_in, with_value}
use Rattle.eval_data.specs.declared.collecting.Collecting.{Collecting}
use Rattle.eval_data.specs.Parts.{here_of}
use Rattle.eval_data.specs.Steps.{collect}
use Rattle.search_steps.proofs.parts.collecting_part.Goals as goal

pub returns : goal.returns
returns c = λ setting locals.
    c.part_of.ensures setting locals
    ∙ ap (λ (x : Collecting). part (expr_in (at (here_of c.args.here) locals) (boxed_view c.args.first.now)) (with_value c.args.place (collect setting x)))
    c.in_ok-new.ensures.ok
