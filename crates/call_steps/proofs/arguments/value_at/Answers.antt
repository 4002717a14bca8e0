use Rattle.std.proofs.Common.{List, slice_get, ap, ◌∙◌}
use Rattle.abstract_syntax.specs.Values.{ValueTree}
use Rattle.step_data.specs.declared.calling.Calling.{Calling}
use Rattle.call_steps.proofs.Items.{item_at}
use Rattle.call_steps.proofs.arguments.value_at.Goals as goal

pub returns : goal.returns
returns c =
    item_at c.as_slice.result.now c.args.index c.get.result c.get.ensures.lookup
    ∙ ap (λ (xs : List ValueTree). slice_get xs c.args.index) (c.as_slice.ensures ∙ ap (λ (x : Calling). x.arguments) c.deref.ensures)
