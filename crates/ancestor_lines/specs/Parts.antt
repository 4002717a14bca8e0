-- What classes have of their own, and lists by their numbers.
use Rattle.std.specs.Prelude.{◌≡◌, ℕ, Bool, not, nat_eq, if◌then◌else◌, List, [], map, get_or, Vec}
use Rattle.std.specs.List.{filter, list_any}
use Rattle.vdm_kinds.specs.NameList.{io}
use Rattle.vdm_kinds.specs.declared.member.VarRef.{VarRef}
use Rattle.vdm_kinds.specs.declared.name.Name.{Name}
use Rattle.abstract_syntax.specs.Classes.{VariableTree, OperationTree, ClassTree, class_variables}

-- the lists that vectors hold
abbrev pub lists_of : {X A : Type 0} → List (Vec X A) → List (List X)
lists_of {X} {A} vectors = map (λ (v : Vec X A). v.items) vectors

-- the list of a number; past the end, nothing
abbrev pub list_at : {X : Type 0} → List (List X) → ℕ → List X
list_at lists k = get_or lists k []

-- the name of a class by its number
abbrev pub name_at : List ClassTree → ℕ → Name
name_at classes k = get_or (map (λ (class : ClassTree). class.name) classes) k io

-- whether a variable is static, or that it is not
abbrev pub is_chosen : Bool → VariableTree → Bool
is_chosen is_static v = if is_static then v.access.is_static else not v.access.is_static

-- the static variables among these, or the others
abbrev pub chosen : Name → Bool → List VariableTree → List VarRef
chosen class is_static vs = map (λ (v : VariableTree). record { class = class; name = v.name }) (filter (is_chosen is_static) vs)

-- those of a class
abbrev pub own_variables : Bool → ClassTree → List VarRef
own_variables is_static class = chosen class.name is_static (class_variables class)

abbrev pub names_of : List OperationTree → List Name
names_of os = map (λ (o : OperationTree). o.name) os

-- names as their numbers
abbrev pub numbers : List Name → List ℕ
numbers names = map (λ (name : Name). name.0) names

-- the keys of a set are the numbers of these names
abbrev pub Knows : List ℕ → List Name → Type 0
Knows keys names = (n : ℕ) → list_any (nat_eq n) keys ≡ list_any (nat_eq n) (numbers names)
