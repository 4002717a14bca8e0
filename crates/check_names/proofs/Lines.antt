-- Tests of all ancestors of a class, by their names.
use Rattle.std.proofs.Common.{◌≡◌, ℕ, false, List, [], ◌∷◌, map, Option, Some, None, refl, ap, ◌∙◌}
use Rattle.std.specs.List.{list_any}
use Rattle.vdm_kinds.specs.declared.name.Name.{Name}
use Rattle.abstract_syntax.specs.Classes.{TypeDefTree, ValueDefTree, VariableTree}
use Rattle.class_meaning.specs.Ancestors.{ancestor_names}
use Rattle.class_meaning.specs.Classes.{class_number}
use Rattle.class_meaning.specs.Members.{of_type, of_value, of_variable}
use Rattle.class_checks.specs.Callees.{is_called, has_called, has_some_called}
use Rattle.class_checks.specs.Members.{has_synchronised_of, is_counted}
use Rattle.check_scopes.specs.Below.spec_table.specs.Meanings.{class_named}
use Rattle.check_scopes.specs.Below.spec_table.specs.Tables.{table_spec}
use Rattle.check_scopes.specs.Below.spec_table.specs.declared.table.ClassTable.{ClassTable}
use Rattle.check_scopes.specs.Below.spec_table.proofs.Meaning.{any_ancestor}

pub counted_in_line : (table : ClassTable) (class name : Name) (line : List Name)
    → ((k : ℕ) → class_number (table_spec table) class ≡ Some k → line ≡ ancestor_names (table_spec table) k)
    → (class_number (table_spec table) class ≡ None → line ≡ [])
    → list_any (λ (n : Name). has_synchronised_of name (class_named (table_spec table) n)) line ≡ is_counted (table_spec table) (class_number (table_spec table) class) name
counted_in_line table class name line some none = by (class_number (table_spec table) class) refl
  where
    by : (o : Option ℕ) → class_number (table_spec table) class ≡ o
        → list_any (λ (n : Name). has_synchronised_of name (class_named (table_spec table) n)) line ≡ is_counted (table_spec table) o name
    by None e = ap (list_any (λ (n : Name). has_synchronised_of name (class_named (table_spec table) n))) (none e)
    by (Some k) e =
        ap (list_any (λ (n : Name). has_synchronised_of name (class_named (table_spec table) n))) (some k e)
        ∙ any_ancestor table (has_synchronised_of name) class k e

pub called_in_line : (table : ClassTable) (class name : Name) (line : List Name) (k : ℕ) → class_number (table_spec table) class ≡ Some k
    → line ≡ ancestor_names (table_spec table) k
    → list_any (λ (n : Name). has_called name (class_named (table_spec table) n)) line ≡ has_some_called (table_spec table) name k
called_in_line table class name line k e is =
    ap (list_any (λ (n : Name). has_called name (class_named (table_spec table) n))) is
    ∙ any_ancestor table (has_called name) class k e

-- no types, values or variables are called
pub no_type : (name : Name) (ts : List TypeDefTree) → list_any (is_called name) (map of_type ts) ≡ false
no_type name [] = refl
no_type name (t ∷ ts) = no_type name ts

pub no_value : (name : Name) (vs : List ValueDefTree) → list_any (is_called name) (map of_value vs) ≡ false
no_value name [] = refl
no_value name (v ∷ vs) = no_value name vs

pub no_variable : (name : Name) (vs : List VariableTree) → list_any (is_called name) (map of_variable vs) ≡ false
no_variable name [] = refl
no_variable name (v ∷ vs) = no_variable name vs
