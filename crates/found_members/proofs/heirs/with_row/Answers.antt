use Rattle.std.proofs.Common.{◌≡◌, ◌<◌, ◌∙◌, length, true, sym, ap, subst}
use Rattle.std.specs.List.{list_all}
use Rattle.graph_cycles.specs.Graphs.{successors}
use Rattle.class_meaning.specs.Classes.{class_graph}
use Rattle.found_members.specs.Rows.{Rows, is_placed}
use Rattle.found_members.proofs.Placing.{places, superclasses_in}
use Rattle.found_members.proofs.heirs.with_row.Goals as goal

pub returns-clause-placed : goal.returns-clause-placed
returns-clause-placed c = λ spec builds fine placed settled.
    let rows = c.args.rows.items in
    let node = c.args.node in
    let within : node < length rows = subst (λ n. node < n) (sym c.requires.count) c.requires.node in
    let same_rows : c.deref.result.now ≡ rows = c.deref.ensures.value in
    let above : c.deref-2.result.now ≡ successors (class_graph spec) node =
    c.deref-2.ensures.value
    ∙ superclasses_in c.args.graph.now node c.index-graph-node.result c.requires.node c.index-graph-node.is
    ∙ ap (λ g. successors g node) builds.same_graph in
    let there : list_all (is_placed c.deref.result.now) c.deref-2.result.now ≡ true =
    ap (λ rs. list_all (is_placed rs) c.deref-2.result.now) same_rows ∙ ap (list_all (is_placed rows)) above ∙ placed in
    let heir = c.in_ok-row.ensures spec node builds.indexes builds.same_trees (subst (λ rs. Rows rs spec) (sym same_rows) fine) there above settled in
    places rows spec node c.in_ok-row.row within fine placed heir
