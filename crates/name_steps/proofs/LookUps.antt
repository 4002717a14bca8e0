-- What the table of the classes finds.
use Rattle.std.proofs.Common.{◌≡◌, ℕ, Option, Some, None, refl, ap}
use Rattle.std.specs.Option.{option_and_then}
use Rattle.vdm_kinds.specs.declared.name.Name.{Name}
use Rattle.abstract_syntax.specs.Classes.{SpecTree}
use Rattle.class_meaning.specs.Classes.{class_number}
use Rattle.class_meaning.specs.Found.{found_function, found_operation, found_value, found_variable}
use Rattle.class_meaning.specs.declared.found.OpFound.{OpFound}
use Rattle.class_meaning.specs.declared.found.OpFound.TheVariants.{None as no_op}
use Rattle.class_meaning.specs.declared.found.VarFound.{VarFound}
use Rattle.class_meaning.specs.declared.found.VarFound.TheVariants.{None as no_var}
use Rattle.spec_table.specs.Members.{descends_to}
use Rattle.node_meaning.specs.Fitting.{descends_by}
use Rattle.node_meaning.specs.Names.{function_in, one_operation, one_variable, operation_in, value_in, variable_in}

-- what is found in a class, where there is one
pub variable_found_in : (spec : SpecTree) (class name : Name) (found : VarFound) →
    ((k : ℕ) → class_number spec class ≡ Some k → found ≡ found_variable spec k name) → (class_number spec class ≡ None → found ≡ no_var) →
    one_variable found ≡ variable_in spec (Some class) name
variable_found_in spec class name found some none = by (class_number spec class) some none
  where
    by : (o : Option ℕ) → ((k : ℕ) → o ≡ Some k → found ≡ found_variable spec k name) → (o ≡ None → found ≡ no_var) →
        one_variable found ≡ option_and_then (λ (k : ℕ). one_variable (found_variable spec k name)) o
    by None some none = ap one_variable (none refl)
    by (Some k) some none = ap one_variable (some k refl)

pub value_found_in : (spec : SpecTree) (class name : Name) (found : VarFound) →
    ((k : ℕ) → class_number spec class ≡ Some k → found ≡ found_value spec k name) → (class_number spec class ≡ None → found ≡ no_var) →
    one_variable found ≡ value_in spec (Some class) name
value_found_in spec class name found some none = by (class_number spec class) some none
  where
    by : (o : Option ℕ) → ((k : ℕ) → o ≡ Some k → found ≡ found_value spec k name) → (o ≡ None → found ≡ no_var) →
        one_variable found ≡ option_and_then (λ (k : ℕ). one_variable (found_value spec k name)) o
    by None some none = ap one_variable (none refl)
    by (Some k) some none = ap one_variable (some k refl)

pub function_found_in : (spec : SpecTree) (class name : Name) (arity : ℕ) (found : OpFound) →
    ((k : ℕ) → class_number spec class ≡ Some k → found ≡ found_function spec k name arity) → (class_number spec class ≡ None → found ≡ no_op) →
    one_operation found ≡ function_in spec (Some class) name arity
function_found_in spec class name arity found some none = by (class_number spec class) some none
  where
    by : (o : Option ℕ) → ((k : ℕ) → o ≡ Some k → found ≡ found_function spec k name arity) → (o ≡ None → found ≡ no_op) →
        one_operation found ≡ option_and_then (λ (k : ℕ). one_operation (found_function spec k name arity)) o
    by None some none = ap one_operation (none refl)
    by (Some k) some none = ap one_operation (some k refl)

pub operation_found_in : (spec : SpecTree) (class name : Name) (arity : ℕ) (found : OpFound) →
    ((k : ℕ) → class_number spec class ≡ Some k → found ≡ found_operation spec k name arity) → (class_number spec class ≡ None → found ≡ no_op) →
    one_operation found ≡ operation_in spec (Some class) name arity
operation_found_in spec class name arity found some none = by (class_number spec class) some none
  where
    by : (o : Option ℕ) → ((k : ℕ) → o ≡ Some k → found ≡ found_operation spec k name arity) → (o ≡ None → found ≡ no_op) →
        one_operation found ≡ option_and_then (λ (k : ℕ). one_operation (found_operation spec k name arity)) o
    by None some none = ap one_operation (none refl)
    by (Some k) some none = ap one_operation (some k refl)

-- the table tells which class is a kind of which as the meaning does
pub descends_alike : (spec : SpecTree) (class other : Option ℕ) → descends_to spec class other ≡ descends_by spec class other
descends_alike spec None None = refl
descends_alike spec None (Some a) = refl
descends_alike spec (Some k) None = refl
descends_alike spec (Some k) (Some a) = refl
