-- The ancestors of a class: itself, then the ancestors of each superclass in order, each class once at its first occurrence. ('Inheritance'
-- of the VDM-10 Language Manual (Overture); the order is this project's own.)
use Rattle.std.specs.Prelude.{ℕ, zero, suc, Bool, not, nat_eq, List, [], ◌∷◌, map, length}
use Rattle.std.specs.List.{filter, flat_map}
use Rattle.vdm_kinds.specs.declared.name.Name.{Name}
use Rattle.abstract_syntax.specs.Classes.{SpecTree}
use Rattle.graph_cycles.specs.Graphs.{Graph, successors, is_in}
use Rattle.class_meaning.specs.Classes.{class_graph, name_of_class}

-- the node, and behind it what each node that it leads to has in turn, to so many levels
abbrev pub walk : ℕ → Graph → ℕ → List ℕ
walk zero g a = []
walk (suc n) g a = a ∷ flat_map (walk n g) (successors g a)

-- each number once, where it stands first
abbrev pub firsts : List ℕ → List ℕ
firsts [] = []
firsts (k ∷ ks) = k ∷ filter (λ (other : ℕ). not (nat_eq k other)) (firsts ks)

-- a path without a circle meets no node twice, so no more levels are wanted than there are nodes, and one
abbrev pub ancestors_in : Graph → ℕ → List ℕ
ancestors_in g a = firsts (walk (suc (length g)) g a)

-- the numbers of a class's ancestors
abbrev pub ancestors : SpecTree → ℕ → List ℕ
ancestors spec k = ancestors_in (class_graph spec) k

abbrev pub ancestor_names : SpecTree → ℕ → List Name
ancestor_names spec k = map (name_of_class spec) (ancestors spec k)

-- whether the second class is the first one or one of its ancestors
abbrev pub is_ancestor : SpecTree → ℕ → ℕ → Bool
is_ancestor spec k other = is_in (ancestors spec k) other
