-- Type definitions as the program holds them, and what finds their numbers.
use Rattle.std.specs.Prelude.{◌≡◌, ℕ, ◌+◌, nat_eq, Bool, ◌&&◌, if◌then◌else◌, List, [], ◌∷◌, map, Option, Some, None}
use Rattle.std.specs.Borrow.{Bor}
use Rattle.std.specs.List.{position}
use Rattle.std.specs.HashMap.{HashMap, get}
use Rattle.vdm_kinds.specs.declared.name.Name.{Name}
use Rattle.abstract_syntax.specs.Classes.{TypeDefTree, SpecTree, is_same_name}
use Rattle.expr_tree.specs.declared.type_def.TypeDef.{TypeDef}
use Rattle.expr_tree.specs.TypeDefView.{type_def_view}
use Rattle.class_meaning.specs.Members.{or_else}
use Rattle.class_meaning.specs.TypeGraph.{type_definitions}
use Rattle.type_graphs.specs.declared.type_numbers.TypeNumbers.{TypeNumbers}

-- the definitions that references are to, as trees
abbrev pub trees_at : List (Bor TypeDef) → List TypeDefTree
trees_at definitions = map (λ (d : Bor TypeDef). type_def_view d.now) definitions

-- whether a definition stands in the class of the one name, under the other
abbrev pub is_named : Name → Name → TypeDefTree → Bool
is_named class name d = is_same_name class d.class && is_same_name name d.name

-- the number of the first one that does
abbrev pub number_among : List TypeDefTree → Name → Name → Option ℕ
number_among definitions class name = position (is_named class name) definitions

-- the same, where the first definition has a number
abbrev pub number_from : Name → Name → ℕ → List TypeDefTree → Option ℕ
number_from class name k [] = None
number_from class name k (d ∷ ds) = or_else (if is_named class name d then Some k else None) (number_from class name (k + 1) ds)

abbrev pub same_pair : ℕ × ℕ → ℕ × ℕ → Bool
same_pair a b = nat_eq a.0 b.0 && nat_eq a.1 b.1

-- the map finds the number of the first definition of each name
abbrev pub FindsNumbers : {S : Type 0} → HashMap (ℕ × ℕ) ℕ S → List TypeDefTree → Type 0
FindsNumbers numbers definitions = (class name : Name) → get same_pair numbers (class.0, name.0) ≡ number_among definitions class name

-- the numbers of a specification's type definitions
pub record AreNumbers (numbers : TypeNumbers) (spec : SpecTree) : Type 0 where
  pub finds : FindsNumbers numbers.numbers (type_definitions spec)
