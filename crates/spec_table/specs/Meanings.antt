-- What a name means in a class, as the table tells it.
use Rattle.std.specs.Prelude.{◌≡◌, Option, Some}
use Rattle.std.specs.Option.{option_and_then}
use Rattle.vdm_kinds.specs.declared.name.Name.{Name}
use Rattle.abstract_syntax.specs.Classes.{ClassTree, SpecTree}
use Rattle.class_meaning.specs.Classes.{class_at, class_number, name_of_class}
use Rattle.member_meaning.specs.Meaning.{Meant as MeantTree, unknown, ambiguous, meant}
use Rattle.spec_table.specs.declared.meanings.Meant.{Meant}
use Rattle.spec_table.specs.declared.meanings.Meant.TheVariants.{Unknown, Ambiguous, One}
use Rattle.spec_table.specs.declared.meanings.Owner.{Owner}
use Rattle.spec_table.specs.Members.{item_view}

abbrev pub meant_view : Meant → MeantTree
meant_view Unknown = unknown
meant_view Ambiguous = ambiguous
meant_view (One owner item) = meant owner.number (item_view item)

-- it is a class of the specification, with its number and its name
pub record Owns (spec : SpecTree) (owner : Owner) : Type 0 where
  pub named : owner.name ≡ name_of_class spec owner.number
  pub numbered : class_number spec owner.name ≡ Some owner.number

abbrev pub IsOwned : SpecTree → Meant → Type 0
IsOwned spec (One owner item) = Owns spec owner
IsOwned spec _ = Unit {0}

-- the class of a name
abbrev pub class_named : SpecTree → Name → Option ClassTree
class_named spec name = option_and_then (class_at spec) (class_number spec name)
