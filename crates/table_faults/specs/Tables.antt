-- What a table holds of a specification.
use Rattle.std.specs.Prelude.{◌≡◌}
use Rattle.abstract_syntax.specs.Classes.{SpecTree}
use Rattle.graph_cycles.specs.Graphs.{graph_of, cycles_of}
use Rattle.class_meaning.specs.Classes.{class_graph}
use Rattle.class_meaning.specs.TypeGraph.{type_graph}
use Rattle.class_index.specs.Lists.{spec_of}
use Rattle.ancestor_lines.specs.Lines.{AreLines}
use Rattle.found_members.specs.Resolved.{Resolves}
use Rattle.type_graphs.specs.Numbers.{AreNumbers}
use Rattle.table_faults.specs.declared.table.Table.{Table}

-- the specification of its classes
abbrev pub spec_in : Table → SpecTree
spec_in table = spec_of table.list.now

-- the lists and names that it holds are those of the specification
pub record Holds (table : Table) : Type 0 where
  pub lines : AreLines (class_graph (spec_in table)) (graph_of table.lines.now)
  pub names : Resolves table.names.now (spec_in table)
  pub numbers : AreNumbers table.numbers.now (spec_in table)
  pub class_cycles : table.class_cycles.now ≡ cycles_of (class_graph (spec_in table))
  pub type_cycles : table.type_cycles.now ≡ cycles_of (type_graph (spec_in table))
