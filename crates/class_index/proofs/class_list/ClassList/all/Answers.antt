use Rattle.std.proofs.Common.{map, ap, ◌∙◌}
use Rattle.vdm_tree.specs.ClassView.{class_view}
use Rattle.class_index.proofs.IoLemmas.{begins_so}
use Rattle.class_index.proofs.class_list.ClassList.all.Goals as goal

pub returns : goal.returns
returns c = ap (map class_view) c.as_slice.ensures.value ∙ begins_so (map class_view c.args.self.now.classes.items) c.args.self.now.begins
