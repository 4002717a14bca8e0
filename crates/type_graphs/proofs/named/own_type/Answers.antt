use Rattle.std.proofs.Common.{◌≡◌, sym, ◌∙◌}
use Rattle.vdm_tree.specs.ClassView.{class_view}
use Rattle.class_index.specs.Lists.{spec_of}
use Rattle.type_graphs.proofs.Meant.{own_type_there, no_own_type}
use Rattle.type_graphs.proofs.named.own_type.Goals as goal

pub returns-in-Some : goal.returns-in-Some
returns-in-Some c =
    let spec = spec_of c.args.list.now in
    let class = class_view c.in_ok-class.class.now in
    c.type_at.ensures
    ∙ own_type_there spec c.args.k class c.args.name c.in-Some.at (sym c.in_ok-class.ensures)
    (c.in-Some.ensures spec class c.requires (sym c.in_ok-class.ensures))

pub returns-in-None : goal.returns-in-None
returns-in-None c =
    let spec = spec_of c.args.list.now in
    let class = class_view c.in_ok-class.class.now in
    no_own_type spec c.args.k class c.args.name (sym c.in_ok-class.ensures) (c.in-None.ensures spec class c.requires (sym c.in_ok-class.ensures))
