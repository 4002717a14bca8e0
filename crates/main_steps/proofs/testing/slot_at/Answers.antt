use Rattle.std.proofs.Common.{List, slice_get, ap, ◌∙◌}
use Rattle.vdm_values.specs.declared.slot.Slot.{Slot}
use Rattle.main_steps.proofs.Fitting.{item_at}
use Rattle.main_steps.proofs.testing.slot_at.Goals as goal

pub returns : goal.returns
returns c =
    item_at c.as_slice.result.now c.args.index c.get.result c.get.ensures.lookup
    ∙ ap (λ (xs : List Slot). slice_get xs c.args.index) c.as_slice.ensures.value
