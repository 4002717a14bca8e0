-- What the table of the classes refuses, in text order: the first is named. Where several refusals stand at one place the least number comes
-- first. (This project's own rules; what has to be found and may not be there twice, 'Classes' of the VDM-10 Language Manual (Overture).)
use Rattle.std.specs.Prelude.{ℕ, suc, Bool, true, false, not, ◌&&◌, ◌||◌, nat_eq, if◌then◌else◌, is_some, List, [], ◌∷◌, ◌++◌, Option, Some, None, length, slice_get}
use Rattle.std.specs.List.{list_any, flat_map}
use Rattle.vdm_kinds.specs.declared.name.Name.{Name}
use Rattle.vdm_kinds.specs.declared.name_at.NameAt.{NameAt}
use Rattle.vdm_kinds.specs.declared.name_at.TypeName.{TypeName}
use Rattle.vdm_kinds.specs.declared.place.Place.{Place}
use Rattle.vdm_kinds.specs.declared.spec_fault.SpecFault.{SpecFault}
use Rattle.vdm_kinds.specs.declared.spec_kind.SpecKind.{SpecKind}
use Rattle.vdm_kinds.specs.declared.spec_kind.SpecKind.TheVariants.{UnknownName, Duplicate, Cycle, WrongArity}
use Rattle.abstract_syntax.specs.Types.{
  TypeTree,
  TypeTrees,
  basic_type,
  quote_type,
  set_type,
  seq_type,
  seq1_type,
  map_type,
  inmap_type,
  optional_type,
  bracketed_type,
  named_type,
  product_type,
  union_type,
  no_types,
  one_type,
}
use Rattle.abstract_syntax.specs.Classes.{FieldTree, TypeBody, same_as, with_fields, ClassTree, SpecTree, is_same_name}
use Rattle.graph_cycles.specs.Graphs.{is_on_cycle}
use Rattle.class_meaning.specs.Classes.{classes, class_number, class_graph}
use Rattle.class_meaning.specs.Ancestors.{ancestors}
use Rattle.class_meaning.specs.Members.{
  Member,
  of_type,
  of_value,
  of_variable,
  of_function,
  of_operation,
  member_name,
  member_name_place,
  member_place,
  class_members,
}
use Rattle.class_meaning.specs.Found.{own_in}
use Rattle.class_meaning.specs.declared.ask.Ask.TheVariants.{AsType}
use Rattle.class_meaning.specs.TypeGraph.{type_graph, type_number}

abbrev pub refused_if : Bool → SpecKind → Place → List SpecFault
refused_if refused kind place = if refused then record { kind = kind; place = place } ∷ [] else []

-- ---- names of types

-- whether one of the ancestors of a class has a type of the name
abbrev pub has_type : SpecTree → Name → ℕ → Bool
has_type spec name k = list_any (λ (a : ℕ). is_some (own_in spec (AsType name) a)) (ancestors spec k)

-- the name of a type behind that of a class
abbrev pub qualified_faults : SpecTree → TypeName → Place → Option ℕ → List SpecFault
qualified_faults spec t place None = refused_if true UnknownName place
qualified_faults spec t place (Some owner) = refused_if (not (has_type spec t.name owner)) UnknownName t.name_place

-- by the class before the backquote, where there is one; with none it is a type that is found, or a class
abbrev pub named_faults : SpecTree → ℕ → TypeName → Place → Option Name → List SpecFault
named_faults spec k t place None =
    refused_if (not (has_type spec t.name k || is_some (class_number spec t.name))) UnknownName t.name_place
named_faults spec k t place (Some class) = qualified_faults spec t place (class_number spec class)

-- the name of a type in the class of a number
abbrev pub type_name_faults : SpecTree → ℕ → TypeName → Place → List SpecFault
type_name_faults spec k t place = named_faults spec k t place t.class

-- those of each name in a type, from left to right
abbrev mutual
  pub type_faults : SpecTree → ℕ → TypeTree → List SpecFault
  type_faults spec k (basic_type basic place) = []
  type_faults spec k (quote_type name place) = []
  type_faults spec k (set_type element place) = type_faults spec k element
  type_faults spec k (seq_type element place) = type_faults spec k element
  type_faults spec k (seq1_type element place) = type_faults spec k element
  type_faults spec k (map_type key value place) = type_faults spec k key ++ type_faults spec k value
  type_faults spec k (inmap_type key value place) = type_faults spec k key ++ type_faults spec k value
  type_faults spec k (optional_type inner place) = type_faults spec k inner
  type_faults spec k (bracketed_type inner place) = type_faults spec k inner
  type_faults spec k (named_type t place) = type_name_faults spec k t place
  type_faults spec k (product_type factors place) = types_faults spec k factors
  type_faults spec k (union_type alternatives place) = types_faults spec k alternatives

  pub types_faults : SpecTree → ℕ → TypeTrees → List SpecFault
  types_faults spec k no_types = []
  types_faults spec k (one_type t ts) = type_faults spec k t ++ types_faults spec k ts

-- ---- definitions

abbrev pub is_among : Name → List Name → Bool
is_among name names = list_any (is_same_name name) names

-- the fields of a record type, each by a name that no earlier one has
abbrev pub field_faults : SpecTree → ℕ → List Name → List FieldTree → List SpecFault
field_faults spec k earlier [] = []
field_faults spec k earlier (field ∷ fields) =
    refused_if (is_among field.name earlier) Duplicate field.name_place
    ++ (type_faults spec k field.declared ++ field_faults spec k (earlier ++ field.name ∷ []) fields)

abbrev pub body_faults : SpecTree → ℕ → TypeBody → List SpecFault
body_faults spec k (same_as declared) = type_faults spec k declared
body_faults spec k (with_fields fields) = field_faults spec k [] fields

abbrev pub optional_faults : SpecTree → ℕ → Option TypeTree → List SpecFault
optional_faults spec k None = []
optional_faults spec k (Some declared) = type_faults spec k declared

-- the types of a definition
abbrev pub typing_faults : SpecTree → ℕ → Member → List SpecFault
typing_faults spec k (of_type t) = body_faults spec k t.body
typing_faults spec k (of_value v) = optional_faults spec k v.declared
typing_faults spec k (of_variable v) = type_faults spec k v.declared
typing_faults spec k (of_function f) = flat_map (type_faults spec k) f.parameters ++ type_faults spec k f.result_type
typing_faults spec k (of_operation o) = flat_map (type_faults spec k) o.parameters ++ optional_faults spec k o.result_type

-- whether a definition has as many patterns as types of parameters
abbrev pub has_its_patterns : Member → Bool
has_its_patterns (of_function f) = nat_eq (length f.parameters) (length f.patterns)
has_its_patterns (of_operation o) = nat_eq (length o.parameters) (length o.patterns)
has_its_patterns _ = true

-- two functions or two operations of one name may differ in the number of their parameters
abbrev pub differ_in_number : Member → Member → Bool
differ_in_number (of_function a) (of_function b) = not (nat_eq (length a.patterns) (length b.patterns))
differ_in_number (of_operation a) (of_operation b) = not (nat_eq (length a.patterns) (length b.patterns))
differ_in_number _ _ = false

abbrev pub clashes : Member → Member → Bool
clashes a b = is_same_name (member_name a) (member_name b) && not (differ_in_number a b)

abbrev pub in_circle : SpecTree → Option ℕ → Bool
in_circle spec None = false
in_circle spec (Some i) = is_on_cycle (type_graph spec) i

-- a type is its own alternative
abbrev pub is_own_alternative : SpecTree → Member → Bool
is_own_alternative spec (of_type t) = in_circle spec (type_number spec t)
is_own_alternative spec _ = false

abbrev pub number_faults : Member → List SpecFault
number_faults member = refused_if (not (has_its_patterns member)) WrongArity (member_place member)

abbrev pub clash_faults : List Member → Member → List SpecFault
clash_faults earlier member = refused_if (list_any (clashes member) earlier) Duplicate (member_name_place member)

-- a definition with no word of access begins at its name
abbrev pub begins_at_its_name : Member → Bool
begins_at_its_name member =
    nat_eq (member_place member).line (member_name_place member).line && nat_eq (member_place member).column (member_name_place member).column

-- what is refused of its head, in text order; at one place the least number comes first
abbrev pub head_faults : List Member → Member → List SpecFault
head_faults earlier member =
    if begins_at_its_name member then clash_faults earlier member ++ number_faults member
    else number_faults member ++ clash_faults earlier member

-- a definition behind the earlier ones of its class
abbrev pub member_faults : SpecTree → ℕ → List Member → Member → List SpecFault
member_faults spec k earlier member =
    head_faults earlier member
    ++ (refused_if (is_own_alternative spec member) Cycle (member_name_place member) ++ typing_faults spec k member)

abbrev pub members_faults : SpecTree → ℕ → List Member → List Member → List SpecFault
members_faults spec k earlier [] = []
members_faults spec k earlier (member ∷ members) = member_faults spec k earlier member ++ members_faults spec k (earlier ++ member ∷ []) members

-- ---- classes

abbrev pub superclass_faults : SpecTree → List NameAt → List SpecFault
superclass_faults spec superclasses = flat_map (λ (s : NameAt). refused_if (not (is_some (class_number spec s.name))) UnknownName s.place) superclasses

-- the class of a number, behind the names of those before it
abbrev pub class_faults : SpecTree → List Name → ℕ → ClassTree → List SpecFault
class_faults spec earlier k class =
    refused_if (is_among class.name earlier) Duplicate class.name_place
    ++ (refused_if (is_on_cycle (class_graph spec) k) Cycle class.name_place
    ++ (superclass_faults spec class.superclasses ++ members_faults spec k [] (class_members class)))

abbrev pub classes_faults : SpecTree → List Name → ℕ → List ClassTree → List SpecFault
classes_faults spec earlier k [] = []
classes_faults spec earlier k (class ∷ others) =
    class_faults spec earlier k class ++ classes_faults spec (earlier ++ class.name ∷ []) (suc k) others

abbrev pub table_faults : SpecTree → List SpecFault
table_faults spec = classes_faults spec [] 0 (classes spec)

-- the first refusal
abbrev pub table_fault : SpecTree → Option SpecFault
table_fault spec = slice_get (table_faults spec) 0
