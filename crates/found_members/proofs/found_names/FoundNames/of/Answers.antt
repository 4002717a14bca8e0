use Rattle.std.proofs.Common.{List, sym, subst}
use Rattle.graph_cycles.specs.Graphs.{Graph, InRange}
use Rattle.abstract_syntax.specs.Classes.{ClassTree}
use Rattle.class_index.specs.Lists.{spec_of}
use Rattle.class_index.specs.declared.own_members.OwnMembers.{OwnMembers}
use Rattle.class_meaning.specs.Classes.{classes}
use Rattle.class_index.proofs.Ranges.{in_range}
use Rattle.found_members.specs.Rows.{HaveIndexes}
use Rattle.found_members.proofs.found_names.FoundNames.of.Goals as goal

pub order-requires : goal.order-requires
order-requires c = subst (λ (g : Graph). InRange g) (sym c.requires) (in_range (spec_of c.args.list.now))

pub returns : goal.returns
returns c =
    let spec = spec_of c.args.list.now in
    let have : HaveIndexes c.in_ok-own.own.items (classes spec) =
    subst (λ (trees : List ClassTree). HaveIndexes c.in_ok-own.own.items trees) c.all-classes.ensures c.in_ok-own.ensures in
    let lent : HaveIndexes c.deref.result.now (classes spec) =
    subst (λ (own : List OwnMembers). HaveIndexes own (classes spec)) (sym c.deref.ensures.value) have in
    let rows = c.in_ok-rows.ensures spec (record { indexes = lent; same_trees = c.all-classes.ensures; same_graph = c.requires }) in
    record { own = have; rows = rows.0; whole = rows.1 }
