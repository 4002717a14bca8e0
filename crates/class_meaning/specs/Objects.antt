-- How objects are laid out: an object has the variables of its class's ancestors, those of the last ancestor first and in text order within
-- a class; a class object has the class's own static variables. And the names of the operations that an object counts. (The order is this
-- project's own.)
use Rattle.std.specs.Prelude.{ℕ, Bool, not, List, [], ◌∷◌, Option, Some, None, map, reverse}
use Rattle.std.specs.List.{filter, flat_map}
use Rattle.vdm_kinds.specs.declared.name.Name.{Name}
use Rattle.vdm_kinds.specs.declared.member.VarRef.{VarRef}
use Rattle.abstract_syntax.specs.Classes.{VariableTree, OperationTree, ClassTree, SpecTree, is_same_name, class_variables, class_operations}
use Rattle.class_meaning.specs.Classes.{class_at}
use Rattle.class_meaning.specs.Ancestors.{ancestors}

-- what a class has of something
abbrev pub listed : {A : Type 0} → (ClassTree → List A) → Option ClassTree → List A
listed of_class None = []
listed of_class (Some class) = of_class class

abbrev pub variable_of : ClassTree → VariableTree → VarRef
variable_of class v = record { class = class.name; name = v.name }

abbrev pub is_static : VariableTree → Bool
is_static v = v.access.is_static

abbrev pub instance_variables : ClassTree → List VarRef
instance_variables class = map (variable_of class) (filter (λ (v : VariableTree). not (is_static v)) (class_variables class))

abbrev pub static_variables : ClassTree → List VarRef
static_variables class = map (variable_of class) (filter is_static (class_variables class))

abbrev pub layout : SpecTree → ℕ → List VarRef
layout spec k = flat_map (λ (a : ℕ). listed instance_variables (class_at spec a)) (reverse (ancestors spec k))

abbrev pub statics : SpecTree → ℕ → List VarRef
statics spec k = listed static_variables (class_at spec k)

-- each name once, where it stands first
abbrev pub first_names : List Name → List Name
first_names [] = []
first_names (name ∷ names) = name ∷ filter (λ (other : Name). not (is_same_name name other)) (first_names names)

abbrev pub own_operation_names : ClassTree → List Name
own_operation_names class = map (λ (o : OperationTree). o.name) (class_operations class)

-- the names of the operations of a class's ancestors
abbrev pub operation_names : SpecTree → ℕ → List Name
operation_names spec k = first_names (flat_map (λ (a : ℕ). listed own_operation_names (class_at spec a)) (ancestors spec k))
