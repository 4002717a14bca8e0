use Rattle.std.proofs.Common.{Option, Box, Global, ◌∙◌, ap, sym}
use Rattle.expr_tree.specs.declared.expr.Expr.{Expr}
use Rattle.expr_tree.specs.View.{maybe_view}
use Rattle.node_meaning.specs.Choosing.{collects}
use Rattle.eval_data.specs.declared.search.Search.{Search}
use Rattle.eval_data.specs.Parts.{chooser_of, elements_of, first_choice, search_of, strict_of}
use Rattle.eval_data.specs.Steps.{choose_behind}
use Rattle.search_steps.proofs.AtOnce.{elements_at_once}
use Rattle.search_steps.proofs.Results.{if_ok}
use Rattle.search_steps.proofs.chosen.tried.Goals as goal

pub returns-in-Collects : goal.returns-in-Collects
returns-in-Collects c =
    if_ok c.first_element.result c.first_element.ensures
    (λ s is setting locals. is setting locals
    ∙ elements_at_once (search_of c.args.search.value) (strict_of c.in-Collects.field-0) (elements_of c.in-Collects.elements)
    (first_choice c.args.search.value) c.args.search.value.done.items (choose_behind setting.spec c.args.search.value 1) locals
    (sym (ap (λ (s : Search). chooser_of s.chooser) c.deref.ensures) ∙ ap chooser_of c.in-Collects.is
    ∙ ap (λ (o : Option (Box Expr Global)). collects (strict_of c.in-Collects.field-0) (elements_of c.in-Collects.elements) (maybe_view o))
    c.in-None.is))
