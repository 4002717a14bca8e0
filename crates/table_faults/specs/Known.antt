-- What sets of names tell of the names and members so far.
use Rattle.std.specs.Prelude.{◌≡◌, ℕ, nat_eq, Bool, ◌&&◌, ◌||◌, List, ◌++◌, map, Option}
use Rattle.std.specs.HashSet.{HashSet, contains}
use Rattle.vdm_kinds.specs.declared.name.Name.{Name}
use Rattle.vdm_kinds.specs.declared.spec_fault.SpecFault.{SpecFault}
use Rattle.abstract_syntax.specs.Classes.{SpecTree, variables_among}
use Rattle.vdm_tree.specs.declared.class_def.VariableItem.{VariableItem}
use Rattle.vdm_tree.specs.ClassView.{variable_item_view}
use Rattle.class_meaning.specs.Members.{Member, of_variable}
use Rattle.table_faults.specs.declared.seen.Seen.{Seen}
use Rattle.table_faults.specs.declared.seen.Shape.TheVariants.{Plain, Function, Operation}
use Rattle.table_faults.specs.Firsts.{or_behind, members_fault, Clashing}

abbrev pub known_names : {S : Type 0} → HashSet ℕ S → Name → Bool
known_names names name = contains nat_eq names name.0

abbrev pub same_pair : ℕ × ℕ → ℕ × ℕ → Bool
same_pair a b = nat_eq a.0 b.0 && nat_eq a.1 b.1

-- what clashes, by tests on the names of all members, of those that are no functions, and no operations, and on the names and numbers of
-- parameters of functions and of operations
abbrev pub clash_by : (ℕ → Bool) → (ℕ → Bool) → (ℕ → Bool) → (ℕ × ℕ → Bool) → (ℕ × ℕ → Bool) → Clashing
clash_by all no_functions no_operations functions operations name Plain = all name.0
clash_by all no_functions no_operations functions operations name (Function n) = no_functions name.0 || functions (name.0, n)
clash_by all no_functions no_operations functions operations name (Operation n) = no_operations name.0 || operations (name.0, n)

abbrev pub known_of : Seen → Clashing
known_of seen =
    clash_by (contains nat_eq seen.names) (contains nat_eq seen.no_functions) (contains nat_eq seen.no_operations)
    (contains same_pair seen.functions) (contains same_pair seen.operations)

-- the refusal of some members is that of all, and where there is none the others decide behind them
pub record Tells (spec : SpecTree) (k : ℕ) (old new : Seen) (members : List Member) (fault : Option SpecFault) : Type 0 where
  pub decides : (others : List Member)
      → members_fault spec k (known_of old) (members ++ others) ≡ or_behind fault (members_fault spec k (known_of new) others)

-- behind the members that are gone through, with no refusal so far, the rest decides
pub record Reaches (spec : SpecTree) (k : ℕ) (first now : Seen) (all rest : List Member) : Type 0 where
  pub goes_on : (others : List Member) → members_fault spec k (known_of first) (all ++ others) ≡ members_fault spec k (known_of now) (rest ++ others)

-- the variables among these items, as members
abbrev pub variables_of : List VariableItem → List Member
variables_of items = map of_variable (variables_among (map variable_item_view items))
