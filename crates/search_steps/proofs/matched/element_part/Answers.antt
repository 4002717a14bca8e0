use Rattle.std.proofs.Common.{◌∙◌}
use Rattle.abstract_syntax.specs.Expressions.{one_expr}
use Rattle.expr_tree.specs.View.{boxed_view}
use Rattle.node_meaning.specs.Choosing.{next_choice}
use Rattle.node_meaning.specs.Strict.{collected}
use Rattle.eval_data.specs.Parts.{here_of, parts_of, search_of}
use Rattle.eval_data.specs.Steps.{choose_behind}
use Rattle.search_steps.proofs.Results.{if_ok}
use Rattle.search_steps.proofs.matched.element_part.Goals as goal

pub returns : goal.returns
returns c =
    if_ok c.collecting_part.result c.collecting_part.ensures
    (λ s is setting locals. is setting locals
    ∙ (λ i. collected (here_of (c.deref.ensures i).here) (c.deref-2.ensures i).place (one_expr (boxed_view c.args.first.now) (parts_of c.args.rest))
    c.args.done.items (next_choice (search_of c.args.search.value) (choose_behind setting.spec c.args.search.value 0)) locals))
