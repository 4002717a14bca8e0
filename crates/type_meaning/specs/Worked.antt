-- Types and values for worked examples. The places of their nodes are all one.
use Rattle.std.specs.Prelude.{ℕ, pos, Bool, false, ◌||◌, nat_eq, if◌then◌else◌, List, [], ◌∷◌, Option, Some, None}
use Rattle.vdm_kinds.specs.declared.access.Access.{Access}
use Rattle.vdm_kinds.specs.declared.access.Level.TheVariants.{Private}
use Rattle.vdm_kinds.specs.declared.basic_type.BasicType.{BasicType}
use Rattle.vdm_kinds.specs.declared.basic_type.BasicType.TheVariants.{Nat}
use Rattle.vdm_kinds.specs.declared.name.Name.{Name}
use Rattle.vdm_kinds.specs.declared.name_at.TypeName.{TypeName}
use Rattle.vdm_kinds.specs.declared.part.Part.TheVariants.{Spec}
use Rattle.vdm_kinds.specs.declared.place.Place.{Place}
use Rattle.abstract_syntax.specs.Expressions.{undefined, any_value}
use Rattle.abstract_syntax.specs.Types.{TypeTree, TypeTrees, basic_type, named_type, union_type, no_types, one_type}
use Rattle.abstract_syntax.specs.Classes.{FieldTree, TypeBody, same_as, with_fields, InvariantTree, TypeDefTree, is_same_name}
use Rattle.abstract_syntax.specs.Values.{ValueTree, number, record_of, sequence, map_of, value_trees, pair_trees}
use Rattle.expr_tree.specs.Alternatives.{Finder}
use Rattle.type_meaning.specs.Shapes.{tests_of}
use Rattle.type_meaning.specs.Tests.{Tests}

abbrev pub here : Place
here = record { part = Spec; line = 1; column = 1 }

abbrev pub name : ℕ → Name
name n = record { 0 = n }

abbrev pub num : ℕ → ValueTree
num n = number (pos n)

abbrev pub seq : List ValueTree → ValueTree
seq vs = sequence (value_trees vs)

abbrev pub pairs : List (ValueTree × ValueTree) → ValueTree
pairs ps = map_of (pair_trees ps)

abbrev pub basic : BasicType → TypeTree
basic b = basic_type b here

-- the type of this name, which stands behind no class
abbrev pub named : ℕ → TypeTree
named n = named_type (record { class = None; name = name n; name_place = here }) here

abbrev pub either : TypeTree → TypeTree → TypeTree
either a b = union_type (one_type a (one_type b no_types)) here

-- what an invariant says is of no account here
abbrev pub some_invariant : InvariantTree
some_invariant = record { pattern = any_value here; condition = undefined here }

abbrev pub defined : ℕ → TypeBody → TypeDefTree
defined n body = record {
  access = record { is_static = false; level = Private };
  class = name 5;
  name = name n;
  name_place = here;
  body = body;
  invariant = Some some_invariant;
  place = here;
}

-- in class 5: a type 10 of numbers, and a type 11 of records of two fields of type 10, each with an invariant
abbrev pub small : TypeDefTree
small = defined 10 (same_as (basic Nat))

abbrev pub field : ℕ → FieldTree
field n = record { name = name n; name_place = here; declared = named 10 }

abbrev pub both_small : TypeDefTree
both_small = defined 11 (with_fields (field 12 ∷ field 13 ∷ []))

abbrev pub found : Finder
found scope class n = if nat_eq n.0 10 then Some small else if nat_eq n.0 11 then Some both_small else None

-- class 9 is below all others
abbrev pub below : Name → Name → Bool
below class other = nat_eq class.0 9 || is_same_name class other

abbrev pub unranked : TypeDefTree → ℕ
unranked d = 0

-- what a type in class 5 wants of a value
abbrev pub wants : TypeTree → ValueTree → Option Tests
wants t v = tests_of found below unranked v (name 5) t
