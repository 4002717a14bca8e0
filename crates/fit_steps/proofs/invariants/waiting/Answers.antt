use Rattle.std.proofs.Common.{List, ap, drop, ◌∙◌}
use Rattle.abstract_syntax.specs.Values.{ValueTree}
use Rattle.expr_tree.specs.TypeDefView.{invariant_view}
use Rattle.expr_tree.specs.View.{boxed_view}
use Rattle.plans.specs.Plans.{part}
use Rattle.node_meaning.specs.Envs.{at}
use Rattle.node_meaning.specs.Matching.{exprs_of}
use Rattle.node_meaning.specs.Strict.{with_others}
use Rattle.node_meaning.specs.Tasks.{Code, Flow, expr_in, with_value}
use Rattle.eval_data.specs.Parts.{boxed_list, here_of}
use Rattle.eval_data.specs.Steps.{invariant_met}
use Rattle.fit_steps.proofs.invariants.waiting.Goals as goal

pub returns : goal.returns
returns c = λ setting locals.
    let here = here_of c.args.here in
    c.part.ensures setting c.args.place locals
    ∙ ap (λ (k : Flow → Code). part (expr_in (at here locals) (boxed_view c.args.first.now)) k)
    (c.in_ok-frame.ensures setting
    ∙ ap (λ (vs : List ValueTree). with_value c.args.place (with_others here c.args.place (exprs_of (drop 1 (boxed_list c.args.found.items))) vs (invariant_met setting.spec c.args.asking.value (invariant_view c.args.invariant.now) here c.args.place c.args.value)))
    c.new.ensures.items)
