use Rattle.std.proofs.Common.{◌∙◌, ap}
use Rattle.vdm_values.specs.Tree.{tree_of}
use Rattle.search_steps.proofs.Results.{if_ok}
use Rattle.search_steps.proofs.Sources.{set_came}
use Rattle.search_steps.proofs.sets.elements.Goals as goal

pub returns-in-Set : goal.returns-in-Set
returns-in-Set c =
    if_ok c.with_set.result c.with_set.ensures
    (λ s is setting e. is setting e
    ∙ set_came setting.spec c.args.sets.value c.in-Set.values.items c.from_vec.result c.args.value c.args.locals.now.items
    (c.in_ok-node.ensures.tree ∙ ap tree_of c.in-Set.is) c.from_vec.ensures)
