-- Words for the laws of classes.
use Rattle.std.specs.Prelude.{◌≡◌, ℕ, Bool, true, false, ◌&&◌, ◌⊎◌, nat_eq, unwrap_or, length, List}
use Rattle.std.specs.List.{AllByRecursion, list_any}
use Rattle.vdm_kinds.specs.declared.member.VarRef.{VarRef}
use Rattle.abstract_syntax.specs.Classes.{TypeDefTree, ClassTree, SpecTree, is_same_name}
use Rattle.graph_cycles.specs.Graphs.{successors}
use Rattle.class_meaning.specs.Ancestors.{ancestors_in}
use Rattle.class_meaning.specs.Classes.{class_at, class_graph}
use Rattle.class_meaning.specs.Found.{found}
use Rattle.class_meaning.specs.Objects.{listed, instance_variables}
use Rattle.class_meaning.specs.TypeGraph.{class_types, type_number, type_graph}
use Rattle.class_meaning.specs.declared.ask.Ask.{Ask}
use Rattle.class_meaning.specs.declared.found.Found.TheVariants.{Nothing, One, Several}

-- the second class is a direct superclass of the first
abbrev pub IsSuperclass : SpecTree → ℕ → ℕ → Type 0
IsSuperclass spec k s = list_any (nat_eq s) (successors (class_graph spec) k) ≡ true

-- the instance variables that a class itself has
abbrev pub own_variables : SpecTree → ℕ → List VarRef
own_variables spec a = listed instance_variables (class_at spec a)

abbrev pub is_same_variable : VarRef → VarRef → Bool
is_same_variable a b = is_same_name a.class b.class && is_same_name a.name b.name

-- a superclass finds the class `o`, and no superclass finds anything else
pub record OneAbove (spec : SpecTree) (ask : Ask) (k o : ℕ) : Type 0 where
  pub some : (s : ℕ) × IsSuperclass spec k s × (found spec ask s ≡ One o)
  pub each : (s : ℕ) → IsSuperclass spec k s → (found spec ask s ≡ Nothing) ⊎ (found spec ask s ≡ One o)

-- the superclasses do not agree: one of them sees that its own do not, or two of them find two classes
abbrev pub Disagree : SpecTree → Ask → ℕ → Type 0
Disagree spec ask k =
    ((s : ℕ) × IsSuperclass spec k s × (found spec ask s ≡ Several))
    ⊎ ((s : ℕ) × (t : ℕ) × (p : ℕ) × (q : ℕ) × IsSuperclass spec k s × IsSuperclass spec k t × (found spec ask s ≡ One p)
    × (found spec ask t ≡ One q) × (nat_eq p q ≡ false))

-- each type is one of the class that it stands in, as it is in what is read
abbrev pub HasOwnTypes : SpecTree → Type 0
HasOwnTypes spec =
    AllByRecursion (λ (class : ClassTree). AllByRecursion (λ (t : TypeDefTree). t.class ≡ class.name) (class_types class)) spec.classes

-- A number of each type by which none is its own alternative: how many types it and its alternatives, and theirs in turn, are.
abbrev pub type_rank : SpecTree → TypeDefTree → ℕ
type_rank spec d = length (ancestors_in (type_graph spec) (unwrap_or (type_number spec d) 0))
