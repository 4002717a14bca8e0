use Rattle.std.proofs.Common.{ap, sym, ◌∙◌}
use Rattle.expr_tree.specs.View.{maybe_view}
use Rattle.eval_data.specs.declared.search.Search.{Search}
use Rattle.eval_data.specs.Parts.{chooser_of, elements_of, first_choice, search_of, strict_of}
use Rattle.eval_data.specs.Steps.{choose_behind}
use Rattle.search_steps.proofs.AtOnce.{elements_fulfil}
use Rattle.search_steps.proofs.decided.fulfilled.Goals as goal

pub returns-in-Collects : goal.returns-in-Collects
returns-in-Collects c = λ setting e.
    c.in_ok-first_element-in-Collects.ensures setting c.args.locals.now.items
    ∙ elements_fulfil (search_of c.args.search.value) (strict_of c.in-Collects.field-0) (elements_of c.in-Collects.elements)
    (maybe_view c.in-Collects.field-2.now) (first_choice c.args.search.value) c.args.search.value.done.items
    (choose_behind setting.spec c.args.search.value 1) c.args.locals.now.items
    (sym (ap (λ (s : Search). chooser_of s.chooser) c.deref.ensures) ∙ ap chooser_of c.in-Collects.is)
