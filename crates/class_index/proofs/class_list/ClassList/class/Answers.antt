use Rattle.std.proofs.Common.{map, ap, slice_get, ◌∙◌}
use Rattle.vdm_tree.specs.ClassView.{class_view}
use Rattle.class_index.proofs.IoLemmas.{begins_so}
use Rattle.class_index.proofs.Items.{view_at}
use Rattle.class_index.proofs.class_list.ClassList.class.Goals as goal

pub returns : goal.returns
returns c =
    let list = c.args.self.now in
    view_at class_view c.as_slice.result.now c.args.k c.get.result c.get.ensures.lookup
    ∙ ap (λ items. slice_get (map class_view items) c.args.k) c.as_slice.ensures.value
    ∙ ap (λ trees. slice_get trees c.args.k) (begins_so (map class_view list.classes.items) list.begins)
