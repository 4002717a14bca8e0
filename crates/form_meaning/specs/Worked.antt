-- Names and classes for worked examples.
use Rattle.std.specs.Prelude.{ℕ, Bool, false, ◌||◌, nat_eq, None}
use Rattle.vdm_kinds.specs.declared.name.Name.{Name}
use Rattle.vdm_kinds.specs.declared.part.Part.TheVariants.{Spec}
use Rattle.vdm_kinds.specs.declared.place.Place.{Place}
use Rattle.abstract_syntax.specs.Classes.{is_same_name}
use Rattle.expr_tree.specs.Alternatives.{Finder}

abbrev pub name : ℕ → Name
name n = record { 0 = n }

abbrev pub place : Place
place = record { part = Spec; line = 1; column = 1 }

abbrev pub nothing_found : Finder
nothing_found scope class name = None

abbrev pub no_class : Name → Bool
no_class name = false

-- classes without superclasses
abbrev pub is_same : Name → Name → Bool
is_same class other = is_same_name class other

-- the class of number 9 is below all others
abbrev pub below_both : Name → Name → Bool
below_both class other = nat_eq class.0 9 || is_same_name class other
