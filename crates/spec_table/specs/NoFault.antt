-- There is at most one proof that nothing is refused.
use Rattle.std.specs.Prelude.{◌≡◌, None}
use Rattle.std.specs.Coded.{Coded-set, coded_option}
use Rattle.vdm_kinds.specs.contracts.spec_fault.SpecFault as fault
use Rattle.abstract_syntax.specs.Classes.{SpecTree}
use Rattle.class_meaning.specs.Faults.{table_fault}

pub NoFault-prop : (spec : SpecTree) → IsProp (table_fault spec ≡ None)
NoFault-prop spec = Coded-set (coded_option fault.the_row.coded) (table_fault spec) None
