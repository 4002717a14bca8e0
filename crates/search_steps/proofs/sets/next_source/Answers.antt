use Rattle.std.proofs.Common.{List, slice_get, ap, ◌∙◌}
use Rattle.eval_data.specs.declared.search.Source.{Source}
use Rattle.search_steps.proofs.Sources.{item_at}
use Rattle.search_steps.proofs.sets.next_source.Goals as goal

pub returns : goal.returns
returns c =
    c.copied.ensures
    ∙ item_at c.as_slice.result.now c.args.sets.now.at c.get.result c.get.ensures.lookup
    ∙ ap (λ (xs : List Source). slice_get xs c.args.sets.now.at) c.as_slice.ensures.value
