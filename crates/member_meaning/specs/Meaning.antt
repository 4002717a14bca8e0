-- The member that a name means in a class.
use Rattle.std.specs.Prelude.{ℕ, Option, Some, None}
use Rattle.abstract_syntax.specs.Classes.{SpecTree}
use Rattle.class_meaning.specs.Found.{found, own_in}
use Rattle.class_meaning.specs.Members.{Member}
use Rattle.class_meaning.specs.declared.ask.Ask.{Ask}
use Rattle.class_meaning.specs.declared.found.Found.{Found}
use Rattle.class_meaning.specs.declared.found.Found.TheVariants.{Nothing, One, Several}

pub data Meant : Type 0 where
  unknown : Meant
  -- superclasses don't agree
  ambiguous : Meant
  -- the member of the class of a number
  meant : ℕ → Member → Meant

abbrev pub own_meant : ℕ → Option Member → Meant
own_meant owner None = unknown
own_meant owner (Some member) = meant owner member

abbrev pub found_meant : SpecTree → Ask → Found → Meant
found_meant spec ask Nothing = unknown
found_meant spec ask Several = ambiguous
found_meant spec ask (One owner) = own_meant owner (own_in spec ask owner)

-- what is meant in the class of a number
abbrev pub meaning : SpecTree → Ask → ℕ → Meant
meaning spec ask k = found_meant spec ask (found spec ask k)
