-- The setting of a table.
use Rattle.node_meaning.specs.Needs.{Asker, Setting}
use Rattle.spec_table.specs.declared.table.ClassTable.{ClassTable}
use Rattle.spec_table.specs.Tables.{table_spec}

-- the specification of the table, by whoever evaluates
abbrev pub set : ClassTable → Asker → Setting
set table asker = record { spec = table_spec table; asker = asker }
