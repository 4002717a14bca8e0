use Rattle.std.proofs.Common.{ap, sym, subst, ◌∙◌}
use Rattle.class_index.specs.Lists.{spec_of}
use Rattle.graph_cycles.specs.Graphs.{graph_of, InRange}
use Rattle.class_meaning.proofs.Ranges.{class_graph_in_range, type_graph_in_range}
use Rattle.table_faults.proofs.Whole.{told_whole}
use Rattle.table_faults.proofs.first_fault.table_fault.Goals as goal

pub on_cycles-requires : goal.on_cycles-requires
on_cycles-requires c = subst InRange (sym c.requires.graph) (class_graph_in_range (spec_of c.args.list.now))

pub on_cycles-requires-2 : goal.on_cycles-requires-2
on_cycles-requires-2 c =
    subst InRange (sym (ap graph_of c.deref.ensures.value ∙ c.in_ok-types.ensures)) (type_graph_in_range (spec_of c.args.list.now))

pub returns : goal.returns
returns c = told_whole (spec_of c.args.list.now) c.classes_fault.result c.classes_fault.ensures
