-- What a table of the classes stands for.
use Rattle.std.specs.Prelude.{List}
use Rattle.vdm_kinds.specs.declared.member.OpRef.{OpRef}
use Rattle.abstract_syntax.specs.Classes.{SpecTree}
use Rattle.class_index.specs.Lists.{spec_of}
use Rattle.spec_table.specs.declared.table.ClassTable.{ClassTable}

-- the specification whose classes it has
abbrev pub table_spec : ClassTable → SpecTree
table_spec table = spec_of table.list

-- the operations for which the host has rows
abbrev pub table_hosts : ClassTable → List OpRef
table_hosts table = table.hosts.items
