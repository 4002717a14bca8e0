-- The classes of a table by their names: what is refused in them is what is refused in those that were read.
use Rattle.std.proofs.Common.{◌≡◌, ℕ, suc, ◌+◌, ◌<◌, true, List, [], ◌∷◌, ◌++◌, Some, None, map, length, get_or, slice_get, drop, refl, ap, sym, subst, ◌∙◌, arith}
use Rattle.std.specs.List.{flat_map}
use Rattle.std.specs.Option.{option_and_then}
use Rattle.std.proofs.lemmas.List.{get_or-map}
use Rattle.std.proofs.lemmas.Option.{slice_get_within, slice_get-get_or}
use Rattle.vdm_kinds.specs.NameList.{io}
use Rattle.vdm_kinds.specs.declared.name.Name.{Name}
use Rattle.vdm_kinds.specs.declared.spec_fault.SpecFault.{SpecFault}
use Rattle.abstract_syntax.specs.Classes.{ClassTree, SpecTree, is_same_name}
use Rattle.class_meaning.proofs.Numbers.{itself}
use Rattle.class_meaning.specs.Classes.{io_class, classes, class_at, class_names, class_number, name_of_class}
use Rattle.class_meaning.specs.Faults.{table_fault}
use Rattle.sync_checks.specs.Below.spec_table.proofs.Numbering.{number_at}
use Rattle.sync_checks.specs.Below.spec_table.specs.Tables.{table_spec}
use Rattle.sync_checks.specs.Below.spec_table.specs.declared.table.ClassTable.{ClassTable}
use Rattle.spec_check.specs.Named.{faults_named, faults_of_some}

abbrev name : ClassTree → Name
name class = class.name

module _ (faults : ClassTree → List SpecFault) (spec : SpecTree) (fine : table_fault spec ≡ None) where
  -- the class of a number is found by its name
  named : (k : ℕ) (class : ClassTree) → slice_get (classes spec) k ≡ Some class → faults_named faults spec class.name ≡ faults class
  named k class at =
      let within : k < length (classes spec) = slice_get_within (classes spec) k class at in
      let got : Some class ≡ Some (get_or (classes spec) k io_class) = sym at ∙ slice_get-get_or (classes spec) k io_class within in
      let same : class ≡ get_or (classes spec) k io_class = cc in
      let there : class.name ≡ name_of_class spec k = ap name same ∙ sym (get_or-map name (classes spec) k io_class io within) in
      let number : class_number spec class.name ≡ Some k =
      number_at spec fine class.name k within (subst (λ (n : Name). is_same_name class.name n ≡ true) there (itself class.name.0)) in
      ap (faults_of_some faults) (ap (option_and_then (class_at spec)) number ∙ at)

  -- the classes from a number on
  behind : (k : ℕ) (cs : List ClassTree) → ((i : ℕ) (class : ClassTree) → slice_get cs i ≡ Some class → slice_get (classes spec) (i + k) ≡ Some class)
      → flat_map (faults_named faults spec) (map name cs) ≡ flat_map faults cs
  behind k [] at = refl
  behind k (c ∷ cs) at =
      let later : (i : ℕ) (class : ClassTree) → slice_get cs i ≡ Some class → slice_get (classes spec) (i + suc k) ≡ Some class =
      λ i class e. let next : suc i + k ≡ i + suc k = omega (arith) in
      subst (λ (n : ℕ). slice_get (classes spec) n ≡ Some class) next (at (suc i) class e) in
      let none_before : 0 + k ≡ k = omega (arith) in
      let here : slice_get (classes spec) k ≡ Some c = subst (λ (n : ℕ). slice_get (classes spec) n ≡ Some c) none_before (at 0 c refl) in
      ap (λ (xs : List SpecFault). xs ++ flat_map (faults_named faults spec) (map name cs)) (named k c here)
      ∙ ap (λ (xs : List SpecFault). faults c ++ xs) (behind (suc k) cs later)

-- the names behind that of `IO` are those of the classes that were read
pub all_named : (faults : ClassTree → List SpecFault) (table : ClassTable)
    → flat_map (faults_named faults (table_spec table)) (drop 1 (class_names (table_spec table))) ≡ flat_map faults (table_spec table).classes
all_named faults table = behind faults (table_spec table) table.fine 1 (table_spec table).classes (λ i class e. let next : suc i ≡ i + 1 = omega (arith) in
    subst (λ (n : ℕ). slice_get (classes (table_spec table)) n ≡ Some class) next e)
