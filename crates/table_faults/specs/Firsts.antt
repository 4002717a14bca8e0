-- The first refusal, part by part. What stands earlier is a test on names, so that no list of it is looked through.
use Rattle.std.specs.Prelude.{ℕ, suc, Bool, false, not, ◌&&◌, ◌||◌, nat_eq, if◌then◌else◌, is_some, List, [], ◌∷◌, Option, Some, None, length}
use Rattle.vdm_kinds.specs.declared.name.Name.{Name}
use Rattle.vdm_kinds.specs.declared.name_at.NameAt.{NameAt}
use Rattle.vdm_kinds.specs.declared.name_at.TypeName.{TypeName}
use Rattle.vdm_kinds.specs.declared.place.Place.{Place}
use Rattle.vdm_kinds.specs.declared.spec_fault.SpecFault.{SpecFault}
use Rattle.vdm_kinds.specs.declared.spec_kind.SpecKind.{SpecKind}
use Rattle.vdm_kinds.specs.declared.spec_kind.SpecKind.TheVariants.{UnknownName, Duplicate, Cycle, WrongArity}
use Rattle.abstract_syntax.specs.Types.{
  TypeTree,
  TypeTrees,
  basic_type,
  quote_type,
  set_type,
  seq_type,
  seq1_type,
  map_type,
  inmap_type,
  optional_type,
  bracketed_type,
  named_type,
  product_type,
  union_type,
  no_types,
  one_type,
}
use Rattle.abstract_syntax.specs.Classes.{FieldTree, TypeBody, same_as, with_fields, ClassTree, SpecTree, is_same_name}
use Rattle.type_tree.specs.TypeView.{type_trees}
use Rattle.graph_cycles.specs.Graphs.{is_on_cycle}
use Rattle.class_meaning.specs.Classes.{class_number, class_graph}
use Rattle.class_meaning.specs.Members.{
  Member,
  of_type,
  of_value,
  of_variable,
  of_function,
  of_operation,
  member_name,
  member_name_place,
  member_place,
  class_members,
}
use Rattle.class_meaning.specs.Faults.{has_type, has_its_patterns, is_own_alternative, begins_at_its_name}
use Rattle.table_faults.specs.declared.seen.Shape.{Shape}
use Rattle.table_faults.specs.declared.seen.Shape.TheVariants.{Plain, Function, Operation}

-- what stands first: the one in front, where there is one
abbrev pub or_behind : {A : Type 0} → Option A → Option A → Option A
or_behind None behind = behind
or_behind (Some found) behind = Some found

abbrev pub refusal : SpecKind → Place → SpecFault
refusal kind place = record { kind = kind; place = place }

abbrev pub refused_if : Bool → SpecKind → Place → Option SpecFault
refused_if refused kind place = if refused then Some (refusal kind place) else None

-- ---- names of types

abbrev pub qualified_fault : SpecTree → TypeName → Place → Option ℕ → Option SpecFault
qualified_fault spec t place None = Some (refusal UnknownName place)
qualified_fault spec t place (Some owner) = refused_if (not (has_type spec t.name owner)) UnknownName t.name_place

abbrev pub named_fault : SpecTree → ℕ → TypeName → Place → Option Name → Option SpecFault
named_fault spec k t place None =
    refused_if (not (has_type spec t.name k || is_some (class_number spec t.name))) UnknownName t.name_place
named_fault spec k t place (Some class) = qualified_fault spec t place (class_number spec class)

abbrev mutual
  pub type_fault : SpecTree → ℕ → TypeTree → Option SpecFault
  type_fault spec k (basic_type basic place) = None
  type_fault spec k (quote_type name place) = None
  type_fault spec k (set_type element place) = type_fault spec k element
  type_fault spec k (seq_type element place) = type_fault spec k element
  type_fault spec k (seq1_type element place) = type_fault spec k element
  type_fault spec k (map_type key value place) = or_behind (type_fault spec k key) (type_fault spec k value)
  type_fault spec k (inmap_type key value place) = or_behind (type_fault spec k key) (type_fault spec k value)
  type_fault spec k (optional_type inner place) = type_fault spec k inner
  type_fault spec k (bracketed_type inner place) = type_fault spec k inner
  type_fault spec k (named_type t place) = named_fault spec k t place t.class
  type_fault spec k (product_type factors place) = types_fault spec k factors
  type_fault spec k (union_type alternatives place) = types_fault spec k alternatives

  pub types_fault : SpecTree → ℕ → TypeTrees → Option SpecFault
  types_fault spec k no_types = None
  types_fault spec k (one_type t ts) = or_behind (type_fault spec k t) (types_fault spec k ts)

-- ---- definitions

-- the names so far, and one more
abbrev pub with_name : (Name → Bool) → Name → Name → Bool
with_name known name other = known other || is_same_name other name

abbrev pub no_names : Name → Bool
no_names name = false

abbrev pub field_fault : SpecTree → ℕ → (Name → Bool) → FieldTree → Option SpecFault
field_fault spec k known field = or_behind (refused_if (known field.name) Duplicate field.name_place) (type_fault spec k field.declared)

abbrev pub fields_fault : SpecTree → ℕ → (Name → Bool) → List FieldTree → Option SpecFault
fields_fault spec k known [] = None
fields_fault spec k known (field ∷ fields) = or_behind (field_fault spec k known field) (fields_fault spec k (with_name known field.name) fields)

abbrev pub body_fault : SpecTree → ℕ → TypeBody → Option SpecFault
body_fault spec k (same_as declared) = type_fault spec k declared
body_fault spec k (with_fields fields) = fields_fault spec k no_names fields

abbrev pub optional_fault : SpecTree → ℕ → Option TypeTree → Option SpecFault
optional_fault spec k None = None
optional_fault spec k (Some declared) = type_fault spec k declared

abbrev pub typing_fault : SpecTree → ℕ → Member → Option SpecFault
typing_fault spec k (of_type t) = body_fault spec k t.body
typing_fault spec k (of_value v) = optional_fault spec k v.declared
typing_fault spec k (of_variable v) = type_fault spec k v.declared
typing_fault spec k (of_function f) = or_behind (types_fault spec k (type_trees f.parameters)) (type_fault spec k f.result_type)
typing_fault spec k (of_operation o) = or_behind (types_fault spec k (type_trees o.parameters)) (optional_fault spec k o.result_type)

-- what of a member tells it from another of its name
abbrev pub shape_of : Member → Shape
shape_of (of_type t) = Plain
shape_of (of_value v) = Plain
shape_of (of_variable v) = Plain
shape_of (of_function f) = Function (length f.patterns)
shape_of (of_operation o) = Operation (length o.patterns)

abbrev pub differ : Shape → Shape → Bool
differ (Function m) (Function n) = not (nat_eq m n)
differ (Operation m) (Operation n) = not (nat_eq m n)
differ _ _ = false

-- a test on the members so far: whether one of them clashes with one of this name and shape
abbrev pub Clashing : Type 0
Clashing = Name → Shape → Bool

abbrev pub with_member : Clashing → Name → Shape → Clashing
with_member known name shape other other_shape = known other other_shape || (is_same_name other name && not (differ other_shape shape))

abbrev pub no_members : Clashing
no_members name shape = false

-- the two refusals of a definition's head, in text order: where it begins at its name the less number comes first
abbrev pub in_order : Bool → Option SpecFault → Option SpecFault → Option SpecFault
in_order begins_at_name number clash = if begins_at_name then or_behind clash number else or_behind number clash

abbrev pub member_fault : SpecTree → ℕ → Clashing → Member → Option SpecFault
member_fault spec k known member =
    or_behind
    (in_order (begins_at_its_name member) (refused_if (not (has_its_patterns member)) WrongArity (member_place member))
    (refused_if (known (member_name member) (shape_of member)) Duplicate (member_name_place member)))
    (or_behind (refused_if (is_own_alternative spec member) Cycle (member_name_place member)) (typing_fault spec k member))

abbrev pub members_fault : SpecTree → ℕ → Clashing → List Member → Option SpecFault
members_fault spec k known [] = None
members_fault spec k known (member ∷ members) =
    or_behind (member_fault spec k known member) (members_fault spec k (with_member known (member_name member) (shape_of member)) members)

-- ---- classes

abbrev pub superclasses_fault : SpecTree → List NameAt → Option SpecFault
superclasses_fault spec [] = None
superclasses_fault spec (s ∷ superclasses) =
    or_behind (refused_if (not (is_some (class_number spec s.name))) UnknownName s.place) (superclasses_fault spec superclasses)

abbrev pub class_fault : SpecTree → (Name → Bool) → ℕ → ClassTree → Option SpecFault
class_fault spec known k class =
    or_behind (refused_if (known class.name) Duplicate class.name_place)
    (or_behind (refused_if (is_on_cycle (class_graph spec) k) Cycle class.name_place)
    (or_behind (superclasses_fault spec class.superclasses) (members_fault spec k no_members (class_members class))))

abbrev pub classes_fault : SpecTree → (Name → Bool) → ℕ → List ClassTree → Option SpecFault
classes_fault spec known k [] = None
classes_fault spec known k (class ∷ others) =
    or_behind (class_fault spec known k class) (classes_fault spec (with_name known class.name) (suc k) others)
