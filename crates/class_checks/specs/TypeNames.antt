-- The names of types: which a place sees, what is refused of the others, and which record a name makes.
use Rattle.std.specs.Prelude.{ℕ, Bool, false, not, nat_eq, if◌then◌else◌, is_some, List, [], ◌∷◌, ◌++◌, Option, Some, None, option_map, length}
use Rattle.std.specs.List.{list_all, find}
use Rattle.vdm_kinds.specs.declared.name.Name.{Name}
use Rattle.vdm_kinds.specs.declared.name_at.TypeName.{TypeName}
use Rattle.vdm_kinds.specs.declared.place.Place.{Place}
use Rattle.vdm_kinds.specs.declared.spec_fault.SpecFault.{SpecFault}
use Rattle.vdm_kinds.specs.declared.spec_kind.SpecKind.TheVariants.{UnknownName, Ambiguous, NotVisible, WrongArity}
use Rattle.abstract_syntax.specs.Types.{
  TypeTree,
  TypeTrees,
  basic_type,
  quote_type,
  set_type,
  seq_type,
  seq1_type,
  map_type,
  inmap_type,
  optional_type,
  bracketed_type,
  named_type,
  product_type,
  union_type,
  no_types,
  one_type,
}
use Rattle.abstract_syntax.specs.Classes.{FieldTree, TypeBody, same_as, with_fields, TypeDefTree, BlockTree, ClassTree, SpecTree, is_same_name}
use Rattle.class_meaning.specs.Calls.{is_visible}
use Rattle.class_meaning.specs.Classes.{classes, class_names, class_number}
use Rattle.class_meaning.specs.Ancestors.{is_ancestor}
use Rattle.class_meaning.specs.Found.{type_named, type_of}
use Rattle.class_meaning.specs.Laws.{type_rank}
use Rattle.class_meaning.specs.TypeGraph.{types_in}
use Rattle.class_meaning.specs.declared.ask.Ask.TheVariants.{AsType}
use Rattle.member_meaning.specs.Meaning.{Meant, unknown, ambiguous, meant, meaning}
use Rattle.expr_tree.specs.Alternatives.{Finder}
use Rattle.pattern_meaning.specs.RecordTypes.{RecordType, stands_for}
use Rattle.form_meaning.specs.Forms.{FormTree}
use Rattle.form_meaning.specs.Types.{form_of as form_of_type, opened as opened_by_names, part_form as part_of_type}
use Rattle.form_meaning.specs.Meeting.{meets as meets_by_classes}
use Rattle.class_checks.specs.Results.{refusal, refused_if}

-- ---- classes

abbrev pub is_class : SpecTree → Name → Bool
is_class spec name = is_some (class_number spec name)

-- whether the first class is the second or below it; where there is no such class it is not
abbrev pub is_below : SpecTree → Option ℕ → Option ℕ → Bool
is_below spec class None = false
is_below spec None (Some other) = false
is_below spec (Some k) (Some other) = is_ancestor spec k other

abbrev pub descends : SpecTree → Name → Name → Bool
descends spec class other = is_below spec (class_number spec class) (class_number spec other)

-- ---- types that are seen

-- whether each type definition says in which class it stands, as each does that was read
abbrev pub stand_in : Name → BlockTree → Bool
stand_in class block = list_all (λ (t : TypeDefTree). is_same_name t.class class) (types_in block)

abbrev pub has_its_types : ClassTree → Bool
has_its_types class = list_all (stand_in class.name) class.blocks

abbrev pub types_stand : SpecTree → Bool
types_stand spec = list_all has_its_types (classes spec)

abbrev pub sees : SpecTree → Option ℕ → Option ℕ → TypeDefTree → Bool
sees spec from None d = false
sees spec from (Some owner) d = is_visible spec from owner d.access.level

abbrev pub seen_from : SpecTree → Name → Option TypeDefTree → Option TypeDefTree
seen_from spec scope None = None
seen_from spec scope (Some d) = if sees spec (class_number spec scope) (class_number spec d.class) d then Some d else None

-- the definition that a name stands for in a class, where it is found and may be named there
abbrev pub seen_type : SpecTree → Finder
seen_type spec scope class name =
    if types_stand spec then seen_from spec scope (type_named spec scope class name) else None

-- ---- forms, in a specification

-- a class is below itself, and what is no class is below nothing
abbrev pub is_named_class : SpecTree → Name → Bool
is_named_class spec class = descends spec class class

abbrev pub form_of : SpecTree → Name → TypeTree → FormTree
form_of spec = form_of_type (seen_type spec) (is_named_class spec) (type_rank spec)

abbrev pub part_form : SpecTree → Name → TypeTree → FormTree
part_form spec = part_of_type (seen_type spec) (is_named_class spec)

abbrev pub opened : SpecTree → FormTree → FormTree
opened spec = opened_by_names (seen_type spec) (is_named_class spec) (type_rank spec)

abbrev pub meets : SpecTree → FormTree → FormTree → Bool
meets spec = meets_by_classes (descends spec) (class_names spec)

-- ---- what is refused of a name

-- `place` is where the whole name begins
module _ (spec : SpecTree) (from : Option ℕ) (t : TypeName) (place : Place) where
  abbrev pub definition_faults : ℕ → Option TypeDefTree → List SpecFault
  definition_faults owner None = refusal UnknownName t.name_place ∷ []
  definition_faults owner (Some d) = refused_if (not (is_visible spec from owner d.access.level)) NotVisible t.name_place

  abbrev pub meant_faults : Bool → Meant → List SpecFault
  meant_faults or_class unknown = refused_if (not or_class) UnknownName t.name_place
  meant_faults or_class ambiguous = refusal Ambiguous t.name_place ∷ []
  meant_faults or_class (meant owner member) = definition_faults owner (type_of member)

  abbrev pub in_class_faults : Bool → Option ℕ → List SpecFault
  in_class_faults or_class None = refusal UnknownName place ∷ []
  in_class_faults or_class (Some k) = meant_faults or_class (meaning spec (AsType t.name) k)

-- A name is a type that is found in the class, or behind the class before its backquote; else, alone, a class.
abbrev pub name_faults_behind : SpecTree → Name → TypeName → Place → Option Name → List SpecFault
name_faults_behind spec scope t place None =
    in_class_faults spec (class_number spec scope) t place (is_class spec t.name) (class_number spec scope)
name_faults_behind spec scope t place (Some class) =
    in_class_faults spec (class_number spec scope) t place false (class_number spec class)

abbrev pub name_faults : SpecTree → Name → TypeName → Place → List SpecFault
name_faults spec scope t place = name_faults_behind spec scope t place t.class

-- those of each name in a type, from left to right
abbrev mutual
  pub type_faults : SpecTree → Name → TypeTree → List SpecFault
  type_faults spec scope (basic_type basic place) = []
  type_faults spec scope (quote_type name place) = []
  type_faults spec scope (set_type element place) = type_faults spec scope element
  type_faults spec scope (seq_type item place) = type_faults spec scope item
  type_faults spec scope (seq1_type item place) = type_faults spec scope item
  type_faults spec scope (map_type key value place) = type_faults spec scope key ++ type_faults spec scope value
  type_faults spec scope (inmap_type key value place) = type_faults spec scope key ++ type_faults spec scope value
  type_faults spec scope (optional_type inner place) = type_faults spec scope inner
  type_faults spec scope (bracketed_type inner place) = type_faults spec scope inner
  type_faults spec scope (named_type t place) = name_faults spec scope t place
  type_faults spec scope (product_type factors place) = types_faults spec scope factors
  type_faults spec scope (union_type alternatives place) = types_faults spec scope alternatives

  pub types_faults : SpecTree → Name → TypeTrees → List SpecFault
  types_faults spec scope no_types = []
  types_faults spec scope (one_type t ts) = type_faults spec scope t ++ types_faults spec scope ts

-- ---- records

-- the second where nothing is refused by the first
abbrev pub or_else_faults : List SpecFault → List SpecFault → List SpecFault
or_else_faults [] others = others
or_else_faults (refused ∷ refusals) others = refused ∷ refusals

-- the record type that a name makes
abbrev pub record_type : SpecTree → Name → TypeName → Option RecordType
record_type spec scope t = stands_for (seen_type spec) (type_rank spec) scope t

-- what is refused of the name behind `mk_` or in a pattern: it also has to stand for a record type
abbrev pub record_name_faults : SpecTree → Name → TypeName → Place → List SpecFault
record_name_faults spec scope t place =
    or_else_faults (name_faults spec scope t place) (refused_if (not (is_some (record_type spec scope t))) UnknownName t.name_place)

abbrev pub fields_in : TypeBody → List FieldTree
fields_in (same_as declared) = []
fields_in (with_fields fields) = fields

abbrev pub fields_of_definition : Option TypeDefTree → List FieldTree
fields_of_definition None = []
fields_of_definition (Some d) = fields_in d.body

-- the fields of the record type of a class and a name
abbrev pub fields_of : SpecTree → Name → Name → List FieldTree
fields_of spec class name = fields_of_definition (seen_type spec class None name)

abbrev pub fields_made : SpecTree → Option RecordType → List FieldTree
fields_made spec None = []
fields_made spec (Some made) = fields_of spec made.class made.name

-- ... with so many parts
abbrev pub record_faults : SpecTree → Name → TypeName → ℕ → Place → List SpecFault
record_faults spec scope t n place =
    or_else_faults
    (record_name_faults spec scope t place)
    (refused_if (not (nat_eq n (length (fields_made spec (record_type spec scope t))))) WrongArity place)

-- the form of a field of the record type of a class and a name, where it has such a field
abbrev pub field_form : SpecTree → Name → Name → Name → Option FormTree
field_form spec class name field =
    option_map (λ (f : FieldTree). form_of spec class f.declared) (find (λ (f : FieldTree). is_same_name field f.name) (fields_of spec class name))
