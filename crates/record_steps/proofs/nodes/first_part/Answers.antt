use Rattle.std.proofs.Common.{List, ap, ◌∙◌}
use Rattle.abstract_syntax.specs.Values.{ValueTree}
use Rattle.expr_tree.specs.View.{view_of}
use Rattle.plans.specs.Plans.{part}
use Rattle.node_meaning.specs.Envs.{at}
use Rattle.node_meaning.specs.Strict.{with_others}
use Rattle.node_meaning.specs.Tasks.{Code, Flow, expr_in, with_value}
use Rattle.eval_data.specs.Parts.{here_of, parts_of}
use Rattle.eval_data.specs.Steps.{then_of}
use Rattle.record_steps.proofs.nodes.first_part.Goals as goal

pub returns : goal.returns
returns c = λ setting locals.
    let here = here_of c.args.here in
    ap (λ (k : Flow → Code). part (expr_in (at here locals) (view_of c.args.tree.now)) k)
    (c.in_ok-frame.ensures setting
    ∙ ap (λ (vs : List ValueTree). with_value c.args.place (with_others here c.args.place (parts_of c.args.rest) vs (then_of setting c.args.then here c.args.place))) c.new.ensures.items)
