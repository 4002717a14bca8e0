use Rattle.std.proofs.Common.{drop, ◌∙◌, rules}
use Rattle.expr_tree.specs.View.{boxed_view}
use Rattle.node_meaning.specs.Functions.{body_here, bound}
use Rattle.node_meaning.specs.Matching.{exprs_of}
use Rattle.eval_data.specs.Parts.{applying_of, boxed_list, here_of}
use Rattle.function_steps.proofs.Listed.{first_begun}
use Rattle.function_steps.proofs.parameters.waiting.Goals as goal

pub returns : goal.returns
returns c = λ setting locals.
    c.in_ok-step.ensures setting locals
    ∙ first_begun (body_here (applying_of c.args.applying.value)) c.args.applying.value.place
    (bound setting.spec (applying_of c.args.applying.value) c.args.values) locals (here_of c.body_here-here.result) c.deref-2.result.now.place
    c.new-done.result.items (boxed_view c.args.first.now) (exprs_of (drop 1 (boxed_list c.args.found.items))) (search rules) (search rules) (search rules)
