-- Which record type a name stands for.
use Rattle.std.specs.Prelude.{ℕ, suc, zero, Bool, true, false, if◌then◌else◌, Option, Some, None}
use Rattle.std.specs.Option.{option_and_then}
use Rattle.vdm_kinds.specs.declared.name.Name.{Name}
use Rattle.vdm_kinds.specs.declared.name_at.TypeName.{TypeName}
use Rattle.abstract_syntax.specs.Types.{TypeTree, bracketed_type, named_type}
use Rattle.abstract_syntax.specs.Classes.{TypeBody, same_as, with_fields, TypeDefTree}

-- a record type: its class and its name
pub record RecordType : Type 0 where
  pub class : Name
  pub name : Name

-- the name that a type is, brackets aside
abbrev pub name_in : TypeTree → Option TypeName
name_in (named_type name place) = Some name
name_in (bracketed_type inner place) = name_in inner
name_in _ = None

-- the name that a definition gives another name to
abbrev pub renamed : TypeBody → Option TypeName
renamed (same_as declared) = name_in declared
renamed (with_fields fields) = None

abbrev pub has_fields : TypeBody → Bool
has_fields (same_as declared) = false
has_fields (with_fields fields) = true

-- `find` gives the definition of a name in a class, behind the class before a backquote where there is one
module _ (find : Name → Option Name → Name → Option TypeDefTree) where
  -- the definition of a type's name in a class
  abbrev pub definition_of : Name → TypeName → Option TypeDefTree
  definition_of scope t = find scope t.class t.name

  -- the record type of a definition: the type itself where it has fields, else what the name stands for to which the definition gives
  -- another name. At most so many definitions are looked at
  abbrev pub record_type_of : ℕ → TypeDefTree → Option RecordType
  record_type_of zero d = None
  record_type_of (suc n) d =
      if has_fields d.body then Some (record { class = d.class; name = d.name })
      else option_and_then (record_type_of n) (option_and_then (definition_of d.class) (renamed d.body))

  -- the record type that a name stands for in a class. Numbers of definitions fall from each to the one whose name it is, so no more
  -- are looked at than the first one's number and one
  abbrev pub stands_for : (TypeDefTree → ℕ) → Name → TypeName → Option RecordType
  stands_for rank scope t = option_and_then (λ d. record_type_of (suc (rank d)) d) (definition_of scope t)
