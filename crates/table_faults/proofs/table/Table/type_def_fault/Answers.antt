use Rattle.table_faults.proofs.Telling.{in_any_case}
use Rattle.table_faults.proofs.table.Table.type_def_fault.Goals as goal

pub returns-clause-noted : goal.returns-clause-noted
returns-clause-noted c = in_any_case c.body_fault.result c.in_ok-clashes.ensures.noted
