-- A number of each type definition, which falls from a type to its alternatives.
use Rattle.std.specs.Prelude.{ℕ, zero, suc, Bool, if◌then◌else◌, max, List, [], ◌∷◌, Option, Some, None, map, length}
use Rattle.std.specs.List.{list_all}
use Rattle.vdm_kinds.specs.declared.name.Name.{Name}
use Rattle.abstract_syntax.specs.Classes.{TypeDefTree, BlockTree, ClassTree, SpecTree, is_same_name}
use Rattle.expr_tree.specs.Alternatives.{Finder}
use Rattle.graph_cycles.specs.Graphs.{Graph, successors}
use Rattle.class_meaning.specs.Classes.{classes}
use Rattle.class_meaning.specs.Found.{type_named}
use Rattle.class_meaning.specs.TypeGraph.{types_in, type_graph, type_number}

-- ---- where types stand

-- whether each type of a class says that it stands in it
abbrev pub stand_in : Name → BlockTree → Bool
stand_in class block = list_all (λ (t : TypeDefTree). is_same_name t.class class) (types_in block)

abbrev pub has_its_types : ClassTree → Bool
has_its_types class = list_all (stand_in class.name) class.blocks

-- whether each type says in which class it stands
abbrev pub types_stand : SpecTree → Bool
types_stand spec = list_all has_its_types (classes spec)

-- the definition that the name of a type means, where each type says in which class it stands. In a specification that was read from text
-- each does
abbrev pub finder : SpecTree → Finder
finder spec scope class name = if types_stand spec then type_named spec scope class name else None

-- ---- heights

abbrev pub greatest : List ℕ → ℕ
greatest [] = zero
greatest (n ∷ ns) = max n (greatest ns)

-- how many nodes the longest path from a node has, to so many levels
abbrev pub height : ℕ → Graph → ℕ → ℕ
height zero g a = zero
height (suc n) g a = suc (greatest (map (height n g) (successors g a)))

abbrev pub height_at : Graph → Option ℕ → ℕ
height_at g None = zero
height_at g (Some i) = height (length g) g i

-- how many types stand on the longest way from a type by alternatives
abbrev pub type_rank : SpecTree → TypeDefTree → ℕ
type_rank spec d = height_at (type_graph spec) (type_number spec d)
