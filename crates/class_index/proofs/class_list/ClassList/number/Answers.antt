use Rattle.std.proofs.Common.{nat_eq, map, ap, ◌∙◌}
use Rattle.std.specs.List.{position}
use Rattle.abstract_syntax.specs.Classes.{ClassTree}
use Rattle.vdm_tree.specs.ClassView.{class_view}
use Rattle.class_index.proofs.IoLemmas.{begins_so}
use Rattle.class_index.proofs.Numbering.{number_is}
use Rattle.class_index.proofs.class_list.ClassList.number.Goals as goal

pub returns : goal.returns
returns c =
    let list = c.args.self.now in
    let trees = map class_view list.classes.items in
    c.copied.ensures ∙ c.get.ensures.value ∙ list.finds c.args.name.0 ∙ number_is c.args.name.0 trees
    ∙ ap (position (λ (class : ClassTree). nat_eq c.args.name.0 class.name.0)) (begins_so trees list.begins)
