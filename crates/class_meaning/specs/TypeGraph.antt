-- Types as alternatives of each other: each type definition leads to those that its alternatives are.
use Rattle.std.specs.Prelude.{ℕ, ◌&&◌, Bool, List, [], Option, map}
use Rattle.std.specs.List.{position, flat_map}
use Rattle.std.specs.Option.{option_and_then}
use Rattle.vdm_kinds.specs.declared.name_at.TypeName.{TypeName}
use Rattle.abstract_syntax.specs.Classes.{TypeDefTree, BlockTree, types, ClassTree, SpecTree, is_same_name}
use Rattle.expr_tree.specs.Alternatives.{body_alternatives}
use Rattle.graph_cycles.specs.Graphs.{Graph}
use Rattle.class_meaning.specs.Classes.{classes, numbers_among}
use Rattle.class_meaning.specs.Found.{type_named}

abbrev pub types_in : BlockTree → List TypeDefTree
types_in (types definitions place) = definitions
types_in _ = []

abbrev pub class_types : ClassTree → List TypeDefTree
class_types class = flat_map types_in class.blocks

-- all type definitions, in text order
abbrev pub type_definitions : SpecTree → List TypeDefTree
type_definitions spec = flat_map class_types (classes spec)

abbrev pub is_same_type : TypeDefTree → TypeDefTree → Bool
is_same_type a b = is_same_name a.class b.class && is_same_name a.name b.name

-- the number of a definition among them
abbrev pub type_number : SpecTree → TypeDefTree → Option ℕ
type_number spec d = position (is_same_type d) (type_definitions spec)

-- the definition that an alternative of a definition is, where it is one
abbrev pub alternative_number : SpecTree → TypeDefTree → TypeName → Option ℕ
alternative_number spec d t = option_and_then (type_number spec) (type_named spec d.class t.class t.name)

abbrev pub alternative_numbers : SpecTree → TypeDefTree → List ℕ
alternative_numbers spec d = numbers_among (map (alternative_number spec d) (body_alternatives d.body))

abbrev pub type_graph : SpecTree → Graph
type_graph spec = map (alternative_numbers spec) (type_definitions spec)
