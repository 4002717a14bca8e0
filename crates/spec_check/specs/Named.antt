-- What is refused in the classes of names, by what is refused in a class.
use Rattle.std.specs.Prelude.{List, [], Option, Some, None}
use Rattle.vdm_kinds.specs.declared.name.Name.{Name}
use Rattle.vdm_kinds.specs.declared.spec_fault.SpecFault.{SpecFault}
use Rattle.abstract_syntax.specs.Classes.{ClassTree, SpecTree}
use Rattle.sync_checks.specs.Below.spec_table.specs.Meanings.{class_named}

module _ (faults : ClassTree → List SpecFault) where
  abbrev pub faults_of_some : Option ClassTree → List SpecFault
  faults_of_some None = []
  faults_of_some (Some class) = faults class

  -- in the class of a name, where there is one
  abbrev pub faults_named : SpecTree → Name → List SpecFault
  faults_named spec name = faults_of_some (class_named spec name)
