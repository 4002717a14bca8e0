use Rattle.std.proofs.Common.{arith, map, length, ap}
use Rattle.std.proofs.lemmas.List.{length-map}
use Rattle.vdm_tree.specs.ClassView.{class_view}
use Rattle.class_index.proofs.IoLemmas.{begins_so}
use Rattle.class_index.proofs.class_list.ClassList.len.Goals as goal

pub returns : goal.returns
returns c =
    let items = c.args.self.now.classes.items in
    let whole = ap length (begins_so (map class_view items) c.args.self.now.begins) in
    let same = length-map items class_view in
    grind (arith, whole, same)
