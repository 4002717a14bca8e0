-- Whether objects of a class have invariants.
use Rattle.std.specs.Prelude.{ℕ, Bool, true, false, List, [], Option, Some, None}
use Rattle.std.specs.List.{list_any}
use Rattle.vdm_kinds.specs.declared.name.Name.{Name}
use Rattle.abstract_syntax.specs.Classes.{VariableItem, variable_item, invariant_item, SpecTree}
use Rattle.class_meaning.specs.Classes.{class_number}
use Rattle.stmt_meaning.specs.Keeping.{Invariant, invariants}
use Rattle.kept_invariants.specs.Guarding.{own_conditions}

-- whether there is anything in a list
abbrev pub is_anything : {A : Type 0} → A → Bool
is_anything x = true

abbrev pub has_any : {A : Type 0} → List A → Bool
has_any xs = list_any is_anything xs

abbrev pub invariants_by : SpecTree → Option ℕ → List Invariant
invariants_by spec None = []
invariants_by spec (Some k) = invariants spec k

-- whether there is any that an object of the class has to keep
abbrev pub has_invariants : SpecTree → Name → Bool
has_invariants spec class = has_any (invariants_by spec (class_number spec class))

-- whether the class of a name has any itself
abbrev pub has_own : SpecTree → Name → Bool
has_own spec class = has_any (own_conditions spec class)

abbrev pub is_invariant : VariableItem → Bool
is_invariant (variable_item v) = false
is_invariant (invariant_item condition place) = true
