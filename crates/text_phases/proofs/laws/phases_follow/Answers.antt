use Rattle.std.proofs.Common.{refl, Some}
use Rattle.text_phases.specs.Built.{unbuilt_fault}
use Rattle.text_phases.proofs.Steps.{by_table, by_checks, by_main, by_forms}
use Rattle.text_phases.proofs.laws.phases_follow.Goals as goal

pub returns-clause-table : goal.returns-clause-table
returns-clause-table c = by_table

pub returns-clause-checks : goal.returns-clause-checks
returns-clause-checks c = λ spec fault none e. by_checks spec (Some fault) none e

pub returns-clause-expression : goal.returns-clause-expression
returns-clause-expression c = by_main

pub returns-clause-forms : goal.returns-clause-forms
returns-clause-forms c = λ spec tree none. by_forms spec tree (unbuilt_fault spec tree) none refl
